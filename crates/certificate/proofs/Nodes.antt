-- Nodes that are made one after another, and what is known of one place.
use Rattle.std.proofs.Common.{◌≡◌, ℕ, ◌+◌, ◌-◌, ◌<◌, ◌≤◌, Bool, true, false, List, [], ◌∷◌, ◌++◌, length, Option, Some, None, is_some, not, sym, ◌∙◌, ap, subst, refl, arith, inl, inr}
use Rattle.std.specs.Prelude.{nat_lt, is_none}
use Rattle.std.proofs.lemmas.Bool.{cases_lt, cond-true, cond-false, lt-ltb, le-ltb}
use Rattle.std.proofs.lemmas.List.{get_or_append_left, get_or_push, length_push}
use Rattle.std.proofs.lemmas.Grind.{same_number_lists}
use Rattle.slot_model.specs.Bound.{sbf, Passes, IsLeastBudget}
use Rattle.tree_model.specs.declared.place.Place.{Place}
use Rattle.tree_model.specs.declared.place.Place.TheVariants.{Core, Part}
use Rattle.tree_model.specs.CertificateView.{NodeView}
use Rattle.tree_model.specs.View.{SystemView}
use Rattle.tree_model.specs.System.{IsSystem, core_at, part_at}
use Rattle.tree_model.specs.Tree.{core_budget, budget_at, IsNode, node_tasks, node_sched, given_budget, node_cycle, node_bound}
use Rattle.tree_model.specs.NodeSupply.{node_budget}
use Rattle.tree_model.specs.Admission.{Admitted, BudgetStands}
use Rattle.tree_model.proofs.InRange.{admitted_in_period}
use Rattle.cert_verify.specs.Proves.{no_node, node_at, nth_place, AreNodes, IsBudget, budgets_of}
use Rattle.cert_verify.proofs.Admits.{budget_here, one_budget_each}
use Rattle.certificate.specs.Made.{ListsPass, ListsLeast, IsMade, IsCertificate}
use Rattle.certificate.specs.inner.Steps.{IsMadeAt, AreMade}

-- a computed budget is the least
pub computed_least : (sys : SystemView) (budgets : List ℕ) → Admitted sys budgets → (q : ℕ) → q < length sys.parts
    → (part_at sys q).budget ≡ None
    → IsLeastBudget (part_at sys q).sched (node_tasks sys budgets (Part q)) (part_at sys q).period (budget_at budgets q)
computed_least sys budgets admitted q h none =
    (subst (λ (o : Option ℕ). BudgetStands sys budgets q o) none (admitted.assigned.stands q (omega arith) h)).1

-- the budget of a part that is given or computed
budget_is : (sys : SystemView) (budgets : List ℕ) (q : ℕ) (node : NodeView) → node.budget ≡ budget_at budgets q
    → 1 ≤ node.budget → node.budget ≤ node.period → (given : Option ℕ) → node.computed ≡ is_none given
    → BudgetStands sys budgets q given → IsBudget given node
budget_is sys budgets q node same some l (Some given) computed stands = (computed, same ∙ stands)
budget_is sys budgets q node same some l None computed stands = (computed, some, l)

-- what is made for a place, and so for the node of that place
record MadeFor (sys : SystemView) (budgets : List ℕ) (node : NodeView) (place : Place) : Type 0 where
  period : node.period ≡ node_cycle sys place
  budget : IsBudget (given_budget sys place) node
  pass : ListsPass (node_sched sys place) (node_tasks sys budgets place) (node_bound sys budgets place)
      (node_cycle sys place) node.points node.hits
  least : ListsLeast node.computed (node_sched sys place) (node_tasks sys budgets place) node.period node.budget
      node.witness node.falls

made_for : (sys : SystemView) (budgets : List ℕ) (node : NodeView) (place : Place) → node.place ≡ place
    → MadeFor sys budgets node place → IsMadeAt sys budgets place node
made_for sys budgets node place same made =
    let own : MadeFor sys budgets node node.place = subst (λ (p : Place). MadeFor sys budgets node p) (sym same) made in
    (same, record { has = record { period = own.period; budget = own.budget }; pass = own.pass; least = own.least })

has_given : (sys : SystemView) → IsSystem sys → (budgets : List ℕ) → Admitted sys budgets → (place : Place)
    → IsNode sys place
    → (node : NodeView) → node.period ≡ node_cycle sys place → node.budget ≡ node_budget sys budgets place
    → node.computed ≡ is_none (given_budget sys place) → IsBudget (given_budget sys place) node
has_given sys is budgets admitted (Part q) h node period budget computed =
    let fit = admitted_in_period sys is budgets admitted q h in
    budget_is sys budgets q node budget (omega (arith, budget, fit)) (omega (arith, budget, period, fit))
    (part_at sys q).budget
    computed (admitted.assigned.stands q (omega arith) h)
has_given sys is budgets admitted (Core c) h node period budget computed = (computed, budget)

pub node_made : (sys : SystemView) → IsSystem sys → (budgets : List ℕ) → Admitted sys budgets → (place : Place)
    → IsNode sys place
    → (node : NodeView) → node.place ≡ place → node.period ≡ node_cycle sys place
    → node.budget ≡ node_budget sys budgets place
    → node.computed ≡ is_none (given_budget sys place)
    → ListsPass (node_sched sys place) (node_tasks sys budgets place) (node_bound sys budgets place)
    (node_cycle sys place) node.points node.hits
    → ListsLeast node.computed (node_sched sys place) (node_tasks sys budgets place) node.period node.budget
    node.witness node.falls
    → IsMadeAt sys budgets place node
node_made sys is budgets admitted place h node same period budget computed pass least =
    made_for sys budgets node place same (record {
      period = period;
      budget = has_given sys is budgets admitted place h node period budget computed;
      pass = pass;
      least = least;
    })

-- one node more
pub one_more : (sys : SystemView) (budgets : List ℕ) (nodes : List NodeView) (n : ℕ) (node : NodeView)
    → AreMade sys budgets nodes n → IsMadeAt sys budgets (nth_place (length sys.parts) n) node
    → (n < length sys.parts → node.budget ≡ budget_at budgets n)
    → AreMade sys budgets (nodes ++ node ∷ []) (n + 1)
one_more sys budgets nodes n node before made budget =
    let old : (k : ℕ) → k < n → node_at (nodes ++ node ∷ []) k ≡ node_at nodes k
    = λ k l. get_or_append_left nodes (node ∷ []) no_node k (omega (arith, before.long)) in
    let new : node_at (nodes ++ node ∷ []) n ≡ node = get_or_push nodes node no_node n (omega (arith, before.long)) in
    record {
      long = omega (arith, length_push nodes node, before.long);
      each = λ k l. elim (cases_lt k n) [
        | inl sooner ↦
            subst (λ (x : NodeView). IsMadeAt sys budgets (nth_place (length sys.parts) k) x) (sym (old k sooner))
            (before.each k sooner)
        | inr last ↦
            let same : k ≡ n = omega arith in
            subst (λ (j : ℕ). IsMadeAt sys budgets (nth_place (length sys.parts) j) (node_at (nodes ++ node ∷ []) j))
            (sym same)
            (subst (λ (x : NodeView). IsMadeAt sys budgets (nth_place (length sys.parts) n) x) (sym new) made)
      ];
      budgets_are = λ q l h. elim (cases_lt q n) [
        | inl sooner ↦ ap (λ (x : NodeView). x.budget) (old q sooner) ∙ before.budgets_are q sooner h
        | inr last ↦
            let same : q ≡ n = omega arith in
            ap (λ (j : ℕ). (node_at (nodes ++ node ∷ []) j).budget) same
            ∙ (ap (λ (x : NodeView). x.budget) new
            ∙ (budget (omega arith) ∙ ap (λ (j : ℕ). budget_at budgets j) (sym same)))
      ];
    }

are_nodes : (sys : SystemView) (budgets : List ℕ) (nodes : List NodeView)
    → AreMade sys budgets nodes (length sys.parts + length sys.cores) → AreNodes sys nodes
are_nodes sys budgets nodes made =
    record { all = made.long; in_order = λ k l. (made.each k (omega (arith, made.long))).0 }

pub same_budgets : (sys : SystemView) (budgets : List ℕ) → length budgets ≡ length sys.parts → (nodes : List NodeView)
    → AreMade sys budgets nodes (length sys.parts + length sys.cores) → budgets_of sys nodes ≡ budgets
same_budgets sys budgets one_each nodes made =
    let are : AreNodes sys nodes = are_nodes sys budgets nodes made in
    same_number_lists (budgets_of sys nodes) budgets (omega (arith, one_budget_each sys nodes are, one_each))
    (λ q l. let h : q < length sys.parts
    = omega (arith, one_budget_each sys nodes are) in budget_here sys nodes are q h
    ∙ made.budgets_are q (omega arith) h)

pub all_made : (sys : SystemView) (budgets : List ℕ) → length budgets ≡ length sys.parts → (nodes : List NodeView)
    → AreMade sys budgets nodes (length sys.parts + length sys.cores) → IsCertificate sys nodes
all_made sys budgets one_each nodes made = record {
  are_nodes = are_nodes sys budgets nodes made;
  each =
      λ k l. subst (λ (bs : List ℕ). IsMade sys bs (node_at nodes k))
      (sym (same_budgets sys budgets one_each nodes made)) (made.each k (omega (arith, made.long))).1;
}

-- with one slot less a computed budget does not pass
pub not_less : (sys : SystemView) → IsSystem sys → (budgets : List ℕ) → Admitted sys budgets → (place : Place)
    → IsNode sys place
    → given_budget sys place ≡ None
    → Passes (node_sched sys place) (node_tasks sys budgets place)
    (sbf (node_cycle sys place) (node_budget sys budgets place - 1)) → ⊥
not_less sys is budgets admitted (Part q) h none passes =
    let fit = admitted_in_period sys is budgets admitted q h in
    (computed_least sys budgets admitted q h none).least (budget_at budgets q - 1) (omega (arith, fit)) passes
not_less sys is budgets admitted (Core c) h none passes = absurd (some_given (core_budget (core_at sys c).supply) none)
  where
    some_given : (b : ℕ) → Some b ≡ None → ⊥
    some_given b e = cc

-- a part more, and a core more
pub part_more : (sys : SystemView) (budgets : List ℕ) (nodes : List NodeView) (q : ℕ) (node : NodeView)
    → AreMade sys budgets nodes q → q < length sys.parts → IsMadeAt sys budgets (Part q) node
    → node.budget ≡ budget_at budgets q → AreMade sys budgets (nodes ++ node ∷ []) (q + 1)
part_more sys budgets nodes q node before l made budget =
    let place : nth_place (length sys.parts) q ≡ Part q
    = cond-true {A = Place} (nat_lt q (length sys.parts)) (Part q) (Core (q - length sys.parts))
    (lt-ltb q (length sys.parts) l) in
    one_more sys budgets nodes q node before (subst (λ (p : Place). IsMadeAt sys budgets p node) (sym place) made)
    (λ h. budget)

pub core_more : (sys : SystemView) (budgets : List ℕ) (nodes : List NodeView) (c : ℕ) (node : NodeView)
    → AreMade sys budgets nodes (length sys.parts + c) → IsMadeAt sys budgets (Core c) node
    → AreMade sys budgets (nodes ++ node ∷ []) (length sys.parts + (c + 1))
core_more sys budgets nodes c node before made =
    let n : ℕ = length sys.parts + c in
    let place : nth_place (length sys.parts) n ≡ Core c
    = cond-false {A = Place} (nat_lt n (length sys.parts)) (Part n) (Core (n - length sys.parts))
    (le-ltb n (length sys.parts) (omega arith))
    ∙ ap Core (let e : n - length sys.parts ≡ c = omega arith in e) in
    subst (λ (k : ℕ). AreMade sys budgets (nodes ++ node ∷ []) k)
    (let e : n + 1 ≡ length sys.parts + (c + 1) = omega arith in e)
    (one_more sys budgets nodes n node before (subst (λ (p : Place). IsMadeAt sys budgets p node) (sym place) made)
    (λ h. absurd (omega arith)))

-- a test for none
pub none_of : (o given : Option ℕ) (b : Bool) → is_some o ≡ not b → o ≡ given → b ≡ is_none given
none_of o given b e same = sym (flip (is_some o) b e) ∙ (other o ∙ ap (λ (x : Option ℕ). is_none x) same)
  where
    flip : (x y : Bool) → x ≡ not y → not x ≡ y
    flip true true h = cc
    flip true false h = refl
    flip false true h = refl
    flip false false h = cc

    other : (x : Option ℕ) → not (is_some x) ≡ is_none x
    other None = refl
    other (Some n) = refl

pub none_is : (given : Option ℕ) → is_none given ≡ true → given ≡ None
none_is None e = refl
none_is (Some n) e = cc
