-- What is kept of the nodes of a tree, one after the other.
use Rattle.std.proofs.Common.{◌≡◌, ◌≢◌, ℕ, suc, ◌+◌, ◌<◌, Bool, true, false, List, [], ◌∷◌, ◌++◌, length, take, get_or, refl, sym, ◌∙◌, ap, arith, subst, inl, inr}
use Rattle.std.proofs.lemmas.Bool.{cases_Bool, cases_lt, eqb-true, false≢true}
use Rattle.std.proofs.lemmas.List.{get_or_append_left, get_or_push, length_push, get_or_default, ext_get_or, map-append, take_more}
use Rattle.slot_model.specs.declared.job.Job.{Job}
use Rattle.slot_model.specs.Slots.{count_below}
use Rattle.slot_model.proofs.Sums.{sum_below-zero}
use Rattle.slot_model.proofs.MissedJobs.{count_below-passes, count_below-fails, count_below-none}
use Rattle.guest_sched.specs.Spans.{Window, slots_of}
use Rattle.tree_model.specs.declared.place.Place.{Place}
use Rattle.tree_model.specs.declared.place.Place.TheVariants.{Core, Part}
use Rattle.tree_model.specs.View.{SystemView}
use Rattle.tree_model.specs.System.{IsSystem}
use Rattle.tree_model.specs.Tree.{same_place, is_child, supply_of, rank_among}
use Rattle.tree_model.specs.Releases.{jobs_at}
use Rattle.tree_model.proofs.Children.{same_itself}
use Rattle.tree_model.proofs.Parents.{Below, child_stands}
use Rattle.tree_spans.specs.NodeView.{NodeView, counts_of}
use Rattle.tree_spans.specs.TreeSpans.{no_node, node_at, given_at, runs_of, supplies_of, IsServerNode, IsPartNode, parent_of, AreTreeSpans}
use Rattle.tree_spans.specs.KeptNodes.{IsKeptOf, IsKeptAt, AreKept, ran_of_core, ran_of_part, IsTreeKept}
use Rattle.tree_spans.specs.inner.Walking.{AreCoresKept, HasCores, ArePartsKept, IsKeptIn, HasChild}
use Rattle.tree_spans.proofs.TreeNodes.{IsThere, node_of, PartShare, no_cores, one_core, cores_give, no_part_nodes, one_part, share_of_part, tree_spans}

-- a place is a node's own where its children are that node's
same_node : (a b : Place) → same_place a b ≡ true → a ≡ b
same_node (Core c) (Core d) e = ap Core (eqb-true c d e)
same_node (Core c) (Part r) e = absurd (false≢true e)
same_node (Part q) (Core d) e = absurd (false≢true e)
same_node (Part q) (Part r) e = ap Part (eqb-true q r e)

-- before the first part no child has run
none_ran : (sys : SystemView) (place : Place) → count_below (is_child sys place) 0 ≡ 0
none_ran sys place = sum_below-zero _

-- one part more: of its parent one child more has run, and of any other node no more
one_more : (sys : SystemView) (m : ℕ)
    → count_below (is_child sys (parent_of sys m)) (suc m) ≡ rank_among sys m + 1
one_more sys m =
    ap (λ (z : ℕ). count_below (is_child sys (parent_of sys m)) z) (let e : suc m ≡ m + 1 = omega arith in e)
    ∙ count_below-passes (is_child sys (parent_of sys m)) m (same_itself (parent_of sys m))

no_more : (sys : SystemView) (m : ℕ) (place : Place) → is_child sys place m ≡ false
    → count_below (is_child sys place) (suc m) ≡ count_below (is_child sys place) m
no_more sys m place none =
    ap (λ (z : ℕ). count_below (is_child sys place) z) (let e : suc m ≡ m + 1 = omega arith in e)
    ∙ count_below-fails (is_child sys place) m none

-- the children of a part run after it
none_yet : (sys : SystemView) → IsSystem sys → (m : ℕ) → m < length sys.parts
    → count_below (is_child sys (Part m)) (suc m) ≡ 0
none_yet sys is m l = count_below-none (is_child sys (Part m)) (suc m) (λ q lq.
    elim (cases_Bool (is_child sys (Part m) q)) [
      | inl child ↦
          let b : Below sys m q = child_stands sys is m q (omega (arith, l, lq)) child in
          absurd (omega (arith, b.later, lq))
      | inr none ↦ none
    ])

-- what a node is told once its next child has run, and what is left as it was at the others
pub record IsTold {K : Type 0} (is_kept_of : K → NodeView → ℕ → Type 0) (parent : Place) (k : ℕ)
    (cores parts new_cores new_parts : List K) : Type 0 where
  pub cores_long : length new_cores ≡ length cores
  pub parts_long : length new_parts ≡ length parts
  pub own : (node : NodeView) → HasChild is_kept_of cores parts parent node k
      → IsKeptIn is_kept_of new_cores new_parts parent node (k + 1)
  pub others : (place : Place) (node : NodeView) (m : ℕ) → place ≢ parent
      → IsKeptIn is_kept_of cores parts place node m → IsKeptIn is_kept_of new_cores new_parts place node m

-- the windows that are kept for part q
pub record PartGiven {K : Type 0} (is_kept_of : K → NodeView → ℕ → Type 0) (sys : SystemView) (budgets : List ℕ)
    (n q : ℕ) (core_nodes nodes : List NodeView) (cores parts : List K) : Type 0 where
  pub has : HasChild is_kept_of cores parts (parent_of sys q) (node_of core_nodes nodes (parent_of sys q))
      (rank_among sys q)
  pub share : PartShare sys budgets n core_nodes nodes q

module _ {K : Type 0} (is_kept_of : K → NodeView → ℕ → Type 0) where
  kept_earlier : (kept : List K) (x : K) (i : ℕ) (node : NodeView) (k : ℕ) → IsKeptAt is_kept_of kept i node k
      → IsKeptAt is_kept_of (kept ++ x ∷ []) i node k
  kept_earlier kept x i node k h = record {
    there = omega (arith, h.there, length_push kept x);
    is = λ one e. h.is one (e ∙ get_or_append_left kept (x ∷ []) one i h.there);
  }

  kept_last : (kept : List K) (x : K) (i : ℕ) (node : NodeView) (k : ℕ) → length kept ≡ i → is_kept_of x node k
      → IsKeptAt is_kept_of (kept ++ x ∷ []) i node k
  kept_last kept x i node k at h = record {
    there = omega (arith, at, length_push kept x);
    is = λ one e. subst (λ (z : K). is_kept_of z node k) (sym (e ∙ get_or_push kept x one i at)) h;
  }

  kept_push : (ran : ℕ → ℕ) (kept : List K) (nodes : List NodeView) (x : K) (node : NodeView)
      → AreKept is_kept_of ran kept nodes → is_kept_of x node (ran (length nodes))
      → AreKept is_kept_of ran (kept ++ x ∷ []) (nodes ++ node ∷ [])
  kept_push ran kept nodes x node h new = record {
    one_each = omega (arith, length_push kept x, length_push nodes node, h.one_each);
    each = λ i l. elim (cases_lt i (length nodes)) [
      | inl before ↦
          subst (λ (v : NodeView). IsKeptAt is_kept_of (kept ++ x ∷ []) i v (ran i))
          (sym (get_or_append_left nodes (node ∷ []) no_node i before))
          (kept_earlier kept x i (node_at nodes i) (ran i) (h.each i before))
      | inr m ↦
          let at : length nodes ≡ i = omega (arith, l, m, length_push nodes node) in
          subst (λ (v : NodeView). IsKeptAt is_kept_of (kept ++ x ∷ []) i v (ran i))
          (sym (get_or_push nodes node no_node i at))
          (kept_last kept x i node (ran i) (h.one_each ∙ at)
          (subst (λ (z : ℕ). is_kept_of x node (ran z)) at new))
    ];
  }

  none_kept : (ran : ℕ → ℕ) → AreKept is_kept_of ran [] []
  none_kept ran = record { one_each = refl; each = λ i l. absurd (omega arith) }

  -- what the code reads is the same
  pub child_read : (cores parts read : List K) (place p : Place) (node : NodeView) (k r : ℕ)
      → HasChild is_kept_of cores parts place node k → read ≡ parts → p ≡ place → r ≡ k
      → HasChild is_kept_of cores read p node r
  child_read cores parts read place p node k r h e f same =
      subst (λ (v : List K). HasChild is_kept_of cores v p node r) (sym e)
      (subst (λ (v : Place). HasChild is_kept_of cores parts v node r) (sym f)
      (subst (λ (v : ℕ). HasChild is_kept_of cores parts place node v) (sym same) h))

  pub told_read : (cores parts read new_cores new_parts : List K) (place p : Place) (k r : ℕ)
      → IsTold is_kept_of p r cores read new_cores new_parts → read ≡ parts → p ≡ place → r ≡ k
      → IsTold is_kept_of place k cores parts new_cores new_parts
  told_read cores parts read new_cores new_parts place p k r h e f same =
      subst (λ (v : List K). IsTold is_kept_of place k cores v new_cores new_parts) e
      (subst (λ (v : Place). IsTold is_kept_of v k cores read new_cores new_parts) f
      (subst (λ (v : ℕ). IsTold is_kept_of p v cores read new_cores new_parts) same h))

  -- one core more
  pub no_core_kept : (sys : SystemView) (budgets : List ℕ) (n : ℕ) (given : List (List Window))
      → AreCoresKept is_kept_of sys budgets n given 0 []
  no_core_kept sys budgets n given =
      record { nodes = []; are_nodes = no_cores sys budgets n given; kept = none_kept (ran_of_core sys 0) }

  pub one_core_kept : (sys : SystemView) (budgets : List ℕ) (n : ℕ) (given : List (List Window)) (m : ℕ)
      (kept : List K) → AreCoresKept is_kept_of sys budgets n given m kept → (one : K)
      → IsKeptOf is_kept_of (IsServerNode sys budgets n (Core m) (slots_of (given_at given m) n)) one
      → AreCoresKept is_kept_of sys budgets n given (suc m) (kept ++ one ∷ [])
  one_core_kept sys budgets n given m kept h one new = record {
    nodes = h.nodes ++ new.node ∷ [];
    are_nodes = one_core sys budgets n given m h.nodes h.are_nodes new.node new.is_node;
    kept =
        kept_push (ran_of_core sys 0) kept h.nodes one new.node h.kept
        (subst (λ (z : ℕ). is_kept_of one new.node z) (sym (none_ran sys (Core (length h.nodes)))) new.kept);
  }

  abbrev pub has_cores : (sys : SystemView) (budgets : List ℕ) (n : ℕ) (given : List (List Window)) (kept : List K)
      → AreCoresKept is_kept_of sys budgets n given (length sys.cores) kept → HasCores is_kept_of sys budgets n kept
  has_cores sys budgets n given kept h =
      record { nodes = h.nodes; give = cores_give sys budgets n given h.nodes h.are_nodes; kept = h.kept }

  -- one part more
  pub no_part_kept : (sys : SystemView) (budgets : List ℕ) (n : ℕ) (jobs : List (List Job)) (cores : List K)
      → (h : HasCores is_kept_of sys budgets n cores)
      → ArePartsKept is_kept_of sys budgets n jobs h.nodes 0 cores []
  no_part_kept sys budgets n jobs cores h = record {
    nodes = [];
    are_nodes = no_part_nodes sys budgets n jobs h.nodes;
    core_kept = h.kept;
    part_kept = none_kept (ran_of_part sys 0);
  }

  kept_in : (sys : SystemView) (m : ℕ) (core_nodes nodes : List NodeView) (cores parts : List K)
      → AreKept is_kept_of (ran_of_core sys m) cores core_nodes → AreKept is_kept_of (ran_of_part sys m) parts nodes
      → (place : Place) → IsThere core_nodes nodes place
      → IsKeptIn is_kept_of cores parts place (node_of core_nodes nodes place) (count_below (is_child sys place) m)
  kept_in sys m core_nodes nodes cores parts h k (Core c) there = h.each c there
  kept_in sys m core_nodes nodes cores parts h k (Part r) there = k.each r there

  pub part_given : (sys : SystemView) (budgets : List ℕ) (n : ℕ) (jobs : List (List Job)) (first cores parts : List K)
      → IsSystem sys → (h : HasCores is_kept_of sys budgets n first) → (q : ℕ) → q < length sys.parts
      → (k : ArePartsKept is_kept_of sys budgets n jobs h.nodes q cores parts)
      → PartGiven is_kept_of sys budgets n q h.nodes k.nodes cores parts
  part_given sys budgets n jobs first cores parts is h q l k =
      let share : PartShare sys budgets n h.nodes k.nodes q
      = share_of_part sys budgets n jobs h.nodes k.nodes is h.give q l k.are_nodes in
      record {
        has = record {
          kept = kept_in sys q h.nodes k.nodes cores parts k.core_kept k.part_kept (parent_of sys q) share.there;
          child = share.child;
        };
        share = share;
      }

  kept_after : (sys : SystemView) (m : ℕ) (core_nodes nodes : List NodeView)
      (cores parts new_cores new_parts : List K)
      → AreKept is_kept_of (ran_of_core sys m) cores core_nodes → AreKept is_kept_of (ran_of_part sys m) parts nodes
      → HasChild is_kept_of cores parts (parent_of sys m) (node_of core_nodes nodes (parent_of sys m))
      (rank_among sys m)
      → IsTold is_kept_of (parent_of sys m) (rank_among sys m) cores parts new_cores new_parts
      → (place : Place) → IsThere core_nodes nodes place
      → IsKeptIn is_kept_of new_cores new_parts place (node_of core_nodes nodes place)
      (count_below (is_child sys place) (suc m))
  kept_after sys m core_nodes nodes cores parts new_cores new_parts h k has told place there =
      elim (cases_Bool (is_child sys place m)) [
        | inl child ↦
            subst
            (λ (p : Place). IsKeptIn is_kept_of new_cores new_parts p (node_of core_nodes nodes p)
            (count_below (is_child sys p) (suc m))) (same_node (parent_of sys m) place child)
            (subst (λ (z : ℕ). IsKeptIn is_kept_of new_cores new_parts (parent_of sys m)
            (node_of core_nodes nodes (parent_of sys m)) z) (sym (one_more sys m))
            (told.own (node_of core_nodes nodes (parent_of sys m)) has))
        | inr none ↦
            let other : place ≢ parent_of sys m
            = λ e. false≢true (sym none
            ∙ (ap (same_place (parent_of sys m)) e ∙ same_itself (parent_of sys m))) in
            subst
            (λ (z : ℕ). IsKeptIn is_kept_of new_cores new_parts place (node_of core_nodes nodes place) z)
            (sym (no_more sys m place none))
            (told.others place (node_of core_nodes nodes place) (count_below (is_child sys place) m) other
            (kept_in sys m core_nodes nodes cores parts h k place there))
      ]

  pub one_part_kept : (sys : SystemView) (budgets : List ℕ) (n : ℕ) (jobs : List (List Job))
      (core_nodes : List NodeView) → IsSystem sys → (m : ℕ) → m < length sys.parts
      → (cores parts new_cores new_parts : List K)
      → (h : ArePartsKept is_kept_of sys budgets n jobs core_nodes m cores parts)
      → HasChild is_kept_of cores parts (parent_of sys m) (node_of core_nodes h.nodes (parent_of sys m))
      (rank_among sys m)
      → IsTold is_kept_of (parent_of sys m) (rank_among sys m) cores parts new_cores new_parts → (one : K)
      → IsKeptOf is_kept_of (IsPartNode sys budgets n m (jobs_at jobs m)
      (supply_of sys budgets n (runs_of core_nodes) (runs_of h.nodes) m)) one
      → ArePartsKept is_kept_of sys budgets n jobs core_nodes (suc m) new_cores (new_parts ++ one ∷ [])
  one_part_kept sys budgets n jobs core_nodes is m l cores parts new_cores new_parts h has told one new =
      let after
      = kept_after sys m core_nodes h.nodes cores parts new_cores new_parts h.core_kept h.part_kept has told in
      record {
        nodes = h.nodes ++ new.node ∷ [];
        are_nodes = one_part sys budgets n jobs core_nodes is m l h.nodes h.are_nodes new.node new.is_node;
        core_kept = record {
          one_each = told.cores_long ∙ h.core_kept.one_each;
          each = λ c lc. after (Core c) lc;
        };
        part_kept =
            kept_push (ran_of_part sys (suc m)) new_parts h.nodes one new.node
            (record { one_each = told.parts_long ∙ h.part_kept.one_each; each = λ r lr. after (Part r) lr })
            (subst (λ (z : ℕ). is_kept_of one new.node z)
            (sym (ap (λ (q : ℕ). ran_of_part sys (suc m) q) h.are_nodes.long ∙ none_yet sys is m l)) new.kept);
      }

  -- the whole tree
  pub tree_kept : (sys : SystemView) (budgets : List ℕ) (n : ℕ) (given : List (List Window)) (jobs : List (List Job))
      (first cores parts : List K) → length given ≡ length sys.cores
      → (h : AreCoresKept is_kept_of sys budgets n given (length sys.cores) first)
      → ArePartsKept is_kept_of sys budgets n jobs h.nodes (length sys.parts) cores parts
      → IsTreeKept is_kept_of sys budgets n (supplies_of given n) jobs cores parts
  tree_kept sys budgets n given jobs first cores parts one_each h k = record {
    tree = record { cores = h.nodes; parts = k.nodes };
    is_tree = tree_spans sys budgets n given jobs h.nodes k.nodes one_each h.are_nodes k.are_nodes;
    core_kept = k.core_kept;
    part_kept = k.part_kept;
  }

-- where what is kept of a node is all of it, it is kept of those nodes
pub all_kept : (ran : ℕ → ℕ) (kept nodes : List NodeView)
    → AreKept (λ (one : NodeView) (node : NodeView) (k : ℕ). one ≡ node) ran kept nodes → kept ≡ nodes
all_kept ran kept nodes h =
    ext_get_or no_node kept nodes h.one_each
    (λ i l. (h.each i (omega (arith, l, h.one_each))).is (get_or kept i no_node)
    (get_or_default kept i no_node (get_or kept i no_node) l))

-- kept of a run of one kind, each of which is of another kind too
pub kept_as : {K : Type 0} (is_kept_of : K → NodeView → ℕ → Type 0) (Is Other : NodeView → Type 0)
    → ((node : NodeView) → Is node → Other node) → (one : K) → IsKeptOf is_kept_of Is one
    → IsKeptOf is_kept_of Other one
kept_as is_kept_of Is Other as_other one h =
    record { node = h.node; is_node = as_other h.node h.is_node; kept = h.kept }

pub spans_kept : (sys : SystemView) (budgets : List ℕ) (n : ℕ) (supplies : List (List Bool)) (jobs : List (List Job))
    (cores parts : List NodeView)
    → IsTreeKept (λ (one : NodeView) (node : NodeView) (k : ℕ). one ≡ node) sys budgets n supplies jobs cores parts
    → AreTreeSpans sys budgets n supplies jobs (record { cores = cores; parts = parts })
spans_kept sys budgets n supplies jobs cores parts h =
    subst (λ (v : List NodeView). AreTreeSpans sys budgets n supplies jobs (record { cores = v; parts = parts }))
    (sym (all_kept (ran_of_core sys (length sys.parts)) cores h.tree.cores h.core_kept))
    (subst
    (λ (v : List NodeView). AreTreeSpans sys budgets n supplies jobs (record { cores = h.tree.cores; parts = v }))
    (sym (all_kept (ran_of_part sys (length sys.parts)) parts h.tree.parts h.part_kept)) h.is_tree)

-- the counts of one node more
pub counts_more : (nodes : List NodeView) (i : ℕ) → i < length nodes
    → counts_of (take (i + 1) nodes) ≡ counts_of (take i nodes) ++ (node_at nodes i).counts ∷ []
counts_more nodes i l =
    ap counts_of (take_more nodes i no_node l)
    ∙ map-append (λ (node : NodeView). node.counts) (take i nodes) (node_at nodes i ∷ [])

pub kept_itself : (nodes : List NodeView)
    → AreKept (λ (one : NodeView) (node : NodeView) (k : ℕ). one ≡ node) (λ i. 0) nodes nodes
kept_itself nodes = record {
  one_each = refl;
  each = λ i l. record { there = l; is = λ one e. e ∙ get_or_default nodes i one no_node l };
}
