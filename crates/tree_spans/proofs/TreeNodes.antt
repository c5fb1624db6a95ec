-- The nodes of a tree, one after the other, and the first run of the tree that they spell.
use Rattle.std.proofs.Common.{◌≡◌, ℕ, suc, ◌<◌, ◌≤◌, Bool, List, [], ◌∷◌, ◌++◌, length, get_or, refl, sym, ◌∙◌, ap, arith, subst, inl, inr}
use Rattle.std.proofs.lemmas.Bool.{cases_eq, cases_Bool}
use Rattle.std.proofs.lemmas.List.{get_or_append_left, get_or_push, length_push, length-map, get_or-map}
use Rattle.slot_model.specs.declared.job.Job.{Job}
use Rattle.slot_model.specs.Run.{child_supply}
use Rattle.guest_sched.specs.Spans.{Window, AreWindows, AreSpans, slots_of, run_of}
use Rattle.tree_model.specs.declared.place.Parent.{Parent}
use Rattle.tree_model.specs.declared.place.Parent.TheVariants.{Core as on_core, Part as on_part}
use Rattle.tree_model.specs.declared.place.Place.{Place}
use Rattle.tree_model.specs.declared.place.Place.TheVariants.{Core, Part}
use Rattle.tree_model.specs.View.{SystemView}
use Rattle.tree_model.specs.System.{IsSystem, Stands, part_at, is_leaf_at}
use Rattle.tree_model.specs.Tree.{place_of, server_tasks, server_jobs, run_at, supply_of, rank_among}
use Rattle.tree_model.specs.Tree.{run_of as run_at_place}
use Rattle.tree_model.specs.FirstTree.{FirstServers}
use Rattle.tree_model.proofs.Children.{IsServer, server_at, same_itself}
use Rattle.tree_model.proofs.FirstTrees.{FirstPart, supply_same, first_tree}
use Rattle.span_counts.specs.declared.counts.Counts.{Counts}
use Rattle.span_counts.specs.Counts.{AreCounts}
use Rattle.slot_model.specs.Task.{SporadicTask}
use Rattle.tree_spans.specs.NodeView.{NodeView, TreeView, counts_of}
use Rattle.tree_spans.specs.TreeCounts.{no_counts, counts_at, AreTreeCounts}
use Rattle.tree_spans.specs.Shares.{AreShare, share_at}
use Rattle.tree_model.specs.Releases.{jobs_at}
use Rattle.tree_spans.specs.TreeSpans.{given_at, no_node, node_at, runs_of, supplies_of, IsServerNode, IsPartNode, parent_of, AreTreeSpans}
use Rattle.tree_spans.specs.inner.Nodes.{AreCoreNodes, ArePartNodes, GivesShares, CoresGive}

abbrev nothing : NodeView
nothing = no_node

-- the run of a node among those of all
pub run_here : (nodes : List NodeView) (i : ℕ) → i < length nodes
    → run_at (runs_of nodes) i ≡ run_of (node_at nodes i).spans
run_here nodes i l = get_or-map (λ (node : NodeView). run_of node.spans) nodes i nothing [] l

runs_long : (nodes : List NodeView) → length (runs_of nodes) ≡ length nodes
runs_long nodes = length-map nodes (λ (node : NodeView). run_of node.spans)

run_earlier : (nodes : List NodeView) (x : NodeView) (i : ℕ) → i < length nodes
    → run_at (runs_of nodes) i ≡ run_at (runs_of (nodes ++ x ∷ [])) i
run_earlier nodes x i l =
    run_here nodes i l
    ∙ (ap (λ (node : NodeView). run_of node.spans) (sym (get_or_append_left nodes (x ∷ []) nothing i l))
    ∙ sym (run_here (nodes ++ x ∷ []) i (omega (arith, length_push nodes x))))

-- one core more
pub no_cores : (sys : SystemView) (budgets : List ℕ) (n : ℕ) (given : List (List Window))
    → AreCoreNodes sys budgets n given 0 []
no_cores sys budgets n given = record { long = refl; each = λ c l. absurd (omega arith) }

pub one_core : (sys : SystemView) (budgets : List ℕ) (n : ℕ) (given : List (List Window)) (m : ℕ)
    (nodes : List NodeView) → AreCoreNodes sys budgets n given m nodes → (x : NodeView)
    → IsServerNode sys budgets n (Core m) (slots_of (given_at given m) n) x
    → AreCoreNodes sys budgets n given (suc m) (nodes ++ x ∷ [])
one_core sys budgets n given m nodes h x new = record {
  long = omega (arith, length_push nodes x, h.long);
  each = λ c l. elim (cases_eq c m) [
    | inl now ↦
        subst
        (λ (z : ℕ). IsServerNode sys budgets n (Core z) (slots_of (given_at given z) n) (node_at (nodes ++ x ∷ []) z))
        (sym now) (subst (λ (v : NodeView). IsServerNode sys budgets n (Core m) (slots_of (given_at given m) n) v)
        (sym (get_or_push nodes x nothing m h.long)) new)
    | inr ne ↦
        subst (λ (v : NodeView). IsServerNode sys budgets n (Core c) (slots_of (given_at given c) n) v)
        (sym (get_or_append_left nodes (x ∷ []) nothing c (omega (arith, h.long)))) (h.each c (omega arith))
  ];
}

pub cores_give : (sys : SystemView) (budgets : List ℕ) (n : ℕ) (given : List (List Window)) (nodes : List NodeView)
    → AreCoreNodes sys budgets n given (length sys.cores) nodes → CoresGive sys budgets n nodes
cores_give sys budgets n given nodes h =
    record { long = h.long; each = λ c l. record { spans = (h.each c l).spans; shares = (h.each c l).shares } }

-- one part more
pub no_part_nodes : (sys : SystemView) (budgets : List ℕ) (n : ℕ) (jobs : List (List Job)) (cores : List NodeView)
    → ArePartNodes sys budgets n jobs cores 0 []
no_part_nodes sys budgets n jobs cores = record { long = refl; each = λ c l. absurd (omega arith) }

pub one_part : (sys : SystemView) (budgets : List ℕ) (n : ℕ) (jobs : List (List Job)) (cores : List NodeView)
    → IsSystem sys → (m : ℕ) → m < length sys.parts → (nodes : List NodeView)
    → ArePartNodes sys budgets n jobs cores m nodes → (x : NodeView)
    → IsPartNode sys budgets n m (jobs_at jobs m) (supply_of sys budgets n (runs_of cores) (runs_of nodes) m) x
    → ArePartNodes sys budgets n jobs cores (suc m) (nodes ++ x ∷ [])
one_part sys budgets n jobs cores fits m l nodes h x new =
    let supply : (q : ℕ) → q < length sys.parts → q ≤ m
    → supply_of sys budgets n (runs_of cores) (runs_of nodes) q
    ≡ supply_of sys budgets n (runs_of cores) (runs_of (nodes ++ x ∷ [])) q
    =
    λ q lq e. supply_same sys budgets n (runs_of cores) (runs_of nodes) (runs_of (nodes ++ x ∷ [])) fits q lq
    (λ i li. run_earlier nodes x i (omega (arith, h.long))) in
    record {
      long = omega (arith, length_push nodes x, h.long);
      each = λ q lq. elim (cases_eq q m) [
        | inl now ↦
            subst (λ (z : ℕ). IsPartNode sys budgets n z (jobs_at jobs z)
            (supply_of sys budgets n (runs_of cores) (runs_of (nodes ++ x ∷ [])) z) (node_at (nodes ++ x ∷ []) z))
            (sym now)
            (subst (λ (v : List Bool). IsPartNode sys budgets n m (jobs_at jobs m) v (node_at (nodes ++ x ∷ []) m))
            (supply m l (omega arith))
            (subst (λ (v : NodeView). IsPartNode sys budgets n m (jobs_at jobs m)
            (supply_of sys budgets n (runs_of cores) (runs_of nodes) m) v)
            (sym (get_or_push nodes x nothing m h.long)) new))
        | inr ne ↦
            subst (λ (v : List Bool). IsPartNode sys budgets n q (jobs_at jobs q) v (node_at (nodes ++ x ∷ []) q))
            (supply q (omega arith) (omega arith))
            (subst (λ (v : NodeView). IsPartNode sys budgets n q (jobs_at jobs q)
            (supply_of sys budgets n (runs_of cores) (runs_of nodes) q) v)
            (sym (get_or_append_left nodes (x ∷ []) nothing q (omega (arith, h.long)))) (h.each q (omega arith)))
      ];
    }

-- the node at a place, and that it has run
abbrev pub IsThere : List NodeView → List NodeView → Place → Type 0
IsThere cores parts (Core c) = c < length cores
IsThere cores parts (Part r) = r < length parts

abbrev pub node_of : List NodeView → List NodeView → Place → NodeView
node_of cores parts (Core c) = node_at cores c
node_of cores parts (Part r) = node_at parts r

-- the parent of a part gives it its share: that of its place among the parent's children
record Given (sys : SystemView) (budgets : List ℕ) (n : ℕ) (cores parts : List NodeView) (q : ℕ) (node : Place) : Type 0
  where
    there : IsThere cores parts node
    run : run_at_place (runs_of cores) (runs_of parts) node ≡ run_of (node_of cores parts node).spans
    gives : GivesShares sys budgets n node (node_of cores parts node)

given_by : (sys : SystemView) (budgets : List ℕ) (n : ℕ) (jobs : List (List Job)) (cores nodes : List NodeView)
    → CoresGive sys budgets n cores → (q : ℕ) → q < length sys.parts → ArePartNodes sys budgets n jobs cores q nodes
    → (parent : Parent) → Stands sys q parent → Given sys budgets n cores nodes q (place_of parent)
given_by sys budgets n jobs cores nodes h q l k (on_core c) stands =
    record { there = omega (arith, h.long); run = run_here cores c (omega (arith, h.long)); gives = h.each c stands }
given_by sys budgets n jobs cores nodes h q l k (on_part r) stands =
    let node : IsServerNode sys budgets n (Part r) (supply_of sys budgets n (runs_of cores) (runs_of nodes) r)
    (node_at nodes r)
    = (k.each r stands.0).inner stands.1 in
    record {
      there = omega (arith, k.long, stands.0);
      run = run_here nodes r (omega (arith, k.long, stands.0));
      gives = record { spans = node.spans; shares = node.shares };
    }

given_of : (sys : SystemView) (budgets : List ℕ) (n : ℕ) (jobs : List (List Job)) (cores nodes : List NodeView)
    → IsSystem sys → CoresGive sys budgets n cores → (q : ℕ) → q < length sys.parts
    → ArePartNodes sys budgets n jobs cores q nodes → Given sys budgets n cores nodes q (parent_of sys q)
given_of sys budgets n jobs cores nodes fits h q l k =
    given_by sys budgets n jobs cores nodes h q l k (part_at sys q).parent (fits.parents q l)

server_of : (sys : SystemView) (budgets : List ℕ) (q : ℕ) → q < length sys.parts
    → IsServer sys budgets q (server_tasks sys budgets (parent_of sys q)) (rank_among sys q)
server_of sys budgets q l = server_at sys budgets (parent_of sys q) q l (same_itself (parent_of sys q))

-- what a part gets of its parent
pub record PartShare (sys : SystemView) (budgets : List ℕ) (n : ℕ) (cores nodes : List NodeView) (q : ℕ) : Type 0 where
  pub there : IsThere cores nodes (parent_of sys q)
  pub child : rank_among sys q < length (node_of cores nodes (parent_of sys q)).shares
  pub windows : AreWindows (share_at (node_of cores nodes (parent_of sys q)).shares (rank_among sys q)) n
  pub slots : slots_of (share_at (node_of cores nodes (parent_of sys q)).shares (rank_among sys q)) n
      ≡ supply_of sys budgets n (runs_of cores) (runs_of nodes) q

pub share_of_part : (sys : SystemView) (budgets : List ℕ) (n : ℕ) (jobs : List (List Job)) (cores nodes : List NodeView)
    → IsSystem sys → CoresGive sys budgets n cores → (q : ℕ) → q < length sys.parts
    → ArePartNodes sys budgets n jobs cores q nodes → PartShare sys budgets n cores nodes q
share_of_part sys budgets n jobs cores nodes fits h q l k =
    let g : Given sys budgets n cores nodes q (parent_of sys q)
    = given_of sys budgets n jobs cores nodes fits h q l k in
    let within = (server_of sys budgets q l).within in
    let s : AreShare (server_jobs sys budgets (parent_of sys q) n)
    (run_of (node_of cores nodes (parent_of sys q)).spans) n (rank_among sys q)
    (share_at (node_of cores nodes (parent_of sys q)).shares (rank_among sys q))
    = g.gives.shares.each (rank_among sys q) within in
    record {
      there = g.there;
      child = omega (arith, g.gives.shares.one_each, within);
      windows = s.fit;
      slots =
          s.slots
          ∙ ap (λ v. child_supply (server_jobs sys budgets (parent_of sys q) n) v (rank_among sys q)) (sym g.run);
    }

-- the whole tree
core_slots : (sys : SystemView) (n : ℕ) (given : List (List Window)) → length given ≡ length sys.cores → (c : ℕ)
    → c < length sys.cores → slots_of (given_at given c) n ≡ get_or (supplies_of given n) c []
core_slots sys n given one_each c l = sym (get_or-map (λ (w : List Window). slots_of w n) given c [] [] (omega arith))

pub tree_spans : (sys : SystemView) (budgets : List ℕ) (n : ℕ) (given : List (List Window)) (jobs : List (List Job))
    (cores parts : List NodeView) → length given ≡ length sys.cores
    → AreCoreNodes sys budgets n given (length sys.cores) cores
    → ArePartNodes sys budgets n jobs cores (length sys.parts) parts
    → AreTreeSpans sys budgets n (supplies_of given n) jobs (record { cores = cores; parts = parts })
tree_spans sys budgets n given jobs cores parts one_each h k =
    let core : (c : ℕ) → c < length sys.cores
    → IsServerNode sys budgets n (Core c) (get_or (supplies_of given n) c []) (node_at cores c)
    =
    λ c l. subst (λ (v : List Bool). IsServerNode sys budgets n (Core c) v (node_at cores c))
    (core_slots sys n given one_each c l) (h.each c l) in
    let core_run : (c : ℕ) → c < length sys.cores
    → FirstServers sys budgets n (Core c) (get_or (supplies_of given n) c []) (run_at (runs_of cores) c)
    =
    λ c l. subst (λ v. FirstServers sys budgets n (Core c) (get_or (supplies_of given n) c []) v)
    (sym (run_here cores c (omega (arith, h.long)))) (core c l).first in
    let part_run : (q : ℕ) → q < length sys.parts
    → FirstPart sys budgets n (jobs_at jobs q) q (supply_of sys budgets n (runs_of cores) (runs_of parts) q)
    (run_at (runs_of parts) q)
    =
    λ q l. subst
    (λ v. FirstPart sys budgets n (jobs_at jobs q) q (supply_of sys budgets n (runs_of cores) (runs_of parts) q) v)
    (sym (run_here parts q (omega (arith, k.long))))
    (record { inner = λ i. ((k.each q l).inner i).first; leaf = λ i. ((k.each q l).leaf i).first }) in
    record {
      first =
          first_tree sys budgets n (supplies_of given n) jobs (runs_of cores) (runs_of parts) (runs_long cores ∙ h.long)
          core_run (record { long = runs_long parts ∙ k.long; each = part_run });
      each_core = h.long;
      each_part = k.long;
      cores = core;
      parts = k.each;
    }

pub part_spans : (sys : SystemView) (budgets : List ℕ) (n q : ℕ) (jobs : List Job) (slots : List Bool) (node : NodeView)
    → IsPartNode sys budgets n q jobs slots node → AreSpans node.spans n
part_spans sys budgets n q jobs slots node h =
    elim (cases_Bool (is_leaf_at sys q)) [ inl leaf ↦ (h.leaf leaf).spans | inr inner ↦ (h.inner inner).spans ]

-- and what is counted of it
counts_here : (nodes : List NodeView) (i : ℕ) → i < length nodes
    → counts_at (counts_of nodes) i ≡ (node_at nodes i).counts
counts_here nodes i l = get_or-map (λ (node : NodeView). node.counts) nodes i no_node no_counts l

counts_long : (nodes : List NodeView) → length (counts_of nodes) ≡ length nodes
counts_long nodes = length-map nodes (λ (node : NodeView). node.counts)

-- the counts of the run of a node's spans are those of its run
node_counted : (tasks : List SporadicTask) (jobs : List Job) (slots : List Bool) (nodes : List NodeView) (i : ℕ)
    → i < length nodes → AreCounts tasks jobs slots (run_of (node_at nodes i).spans) (node_at nodes i).counts
    → AreCounts tasks jobs slots (run_at (runs_of nodes) i) (counts_at (counts_of nodes) i)
node_counted tasks jobs slots nodes i l h =
    subst (λ (v : Counts). AreCounts tasks jobs slots (run_at (runs_of nodes) i) v) (sym (counts_here nodes i l))
    (subst (λ v. AreCounts tasks jobs slots v (node_at nodes i).counts) (sym (run_here nodes i l)) h)

pub tree_counted : (sys : SystemView) (budgets : List ℕ) (n : ℕ) (supplies : List (List Bool)) (jobs : List (List Job))
    (tree : TreeView) → AreTreeSpans sys budgets n supplies jobs tree
    → AreTreeCounts sys budgets n supplies jobs (runs_of tree.cores) (runs_of tree.parts)
    (record { cores = counts_of tree.cores; parts = counts_of tree.parts })
tree_counted sys budgets n supplies jobs tree h = record {
  each_core = counts_long tree.cores ∙ h.each_core;
  each_part = counts_long tree.parts ∙ h.each_part;
  cores = λ c l. node_counted _ _ _ tree.cores c (omega (arith, h.each_core)) (h.cores c l).counts;
  inner = λ q l i. node_counted _ _ _ tree.parts q (omega (arith, h.each_part)) ((h.parts q l).inner i).counts;
  leaves = λ q l i. node_counted _ _ _ tree.parts q (omega (arith, h.each_part)) ((h.parts q l).leaf i).counts;
}
