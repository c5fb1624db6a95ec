-- What a first refusal says holds: the refused guest or core must miss, and on a flat system so
-- does every choice of budgets.
use Rattle.std.proofs.Common.{◌≡◌, ◌⊎◌, ℕ, zero, suc, ◌<◌, ◌≤◌, true, List, length, Option, Some, None, refl, sym, arith, subst, inl, inr}
use Rattle.std.proofs.lemmas.Bool.{cases_lt, cases_eq}
use Rattle.slot_model.specs.declared.sched.Short.{Short}
use Rattle.slot_model.specs.Task.{SporadicTask}
use Rattle.slot_model.specs.Bound.{sbf, Passes, IsShortfall, shows_by}
use Rattle.slot_model.proofs.WorstPattern.{periodic_laws}
use Rattle.least_budget.proofs.LevelRuns.{short_misses}
use Rattle.least_budget.proofs.Decide.{passes_or_short}
use Rattle.least_budget.proofs.Budgets.{over_misses}
use Rattle.tree_model.specs.declared.place.Place.{Place}
use Rattle.tree_model.specs.declared.place.Place.TheVariants.{Core, Part}
use Rattle.tree_model.specs.declared.plan.Refusal.{Refusal}
use Rattle.tree_model.specs.declared.plan.Refusal.TheVariants.{Overfull, Wide, NoMemory}
use Rattle.tree_model.specs.View.{SystemView}
use Rattle.tree_model.specs.System.{IsSystem, IsGivenBudget, core_at, part_at, own_tasks_at, is_leaf_at}
use Rattle.tree_model.specs.Tree.{is_child, budget_at, core_bound, child_tasks, server_tasks, node_tasks}
use Rattle.tree_model.specs.Admission.{BudgetStands, largest_budget, FirstRefusal, FirstUnassigned}
use Rattle.tree_model.proofs.NodeTasks.{leaf_tasks, child_tasks-zero, child_tasks-suc}
use Rattle.tree_model.proofs.Parents.{servers_constrained, leaf_constrained}
use Rattle.tree_model.proofs.InRange.{InPeriod, assigned_in_period}
use Rattle.compose_tree.specs.Truth.{LeafMustMiss, LeafIsOverfull, IsFlat, IsChosen, AreChosen, ChoiceFails, at_leaf, at_core, RefusalHolds}
use Rattle.compose_tree.proofs.Heavier.{Heavier, FallsShort, heavier_push_if, heavier_falls, shortfall_falls}
use Rattle.compose_tree.proofs.CoreFails.{core_fails}

-- a leaf falls short with its largest budget: with a given one it must miss, else with every one
-- up to its period
leaf_overfull : (sys : SystemView) → IsSystem sys → (q : ℕ) → q < length sys.parts → (given : Option ℕ)
    → IsGivenBudget (part_at sys q).period given → (short : Short)
    → IsShortfall (part_at sys q).sched (own_tasks_at sys q)
    (sbf (part_at sys q).period (largest_budget given (part_at sys q).period)) short → LeafIsOverfull sys q given
leaf_overfull sys is q h (Some given) range short falls =
    short_misses (part_at sys q).sched (own_tasks_at sys q) (leaf_constrained sys is q h)
    (periodic_laws (part_at sys q).period given (is.parts q h).period.0 range.1) short falls
leaf_overfull sys is q h None range short falls =
    λ b l. over_misses (part_at sys q).sched (own_tasks_at sys q) (leaf_constrained sys is q h) (part_at sys q).period b
    (is.parts q h).period.0 l short falls

refused_leaf : (sys : SystemView) → IsSystem sys → (q : ℕ) (short : Short) → FirstRefusal sys (Overfull (Part q) short)
    → is_leaf_at sys q ≡ true → LeafIsOverfull sys q (part_at sys q).budget
refused_leaf sys is q short refused leaf =
    leaf_overfull sys is q refused.is_node (part_at sys q).budget (is.parts q refused.is_node).budget short
    (subst (λ (tasks : List SporadicTask). IsShortfall (part_at sys q).sched tasks
    (sbf (part_at sys q).period (largest_budget (part_at sys q).budget (part_at sys q).period)) short)
    (leaf_tasks sys refused.budgets q leaf) refused.cause.1)

-- the core's servers under the settled budgets
core_falls : (sys : SystemView) (c : ℕ) (short : Short) (supply : Option (ℕ × ℕ)) → supply ≡ None
    → (tasks : List SporadicTask) → IsShortfall (core_at sys c).sched tasks (core_bound supply) short
    → FallsShort (core_at sys c).sched tasks (λ t. t) short
core_falls sys c short None e tasks falls = shortfall_falls (core_at sys c).sched tasks (λ t. t) short falls
core_falls sys c short (Some supply) e tasks falls = cc

-- a chosen budget is 1 to its period
chosen_one : (period : ℕ) (given : Option ℕ) (budget : ℕ) → IsGivenBudget period given → IsChosen period given budget
    → (1 ≤ budget) × (budget ≤ period)
chosen_one period (Some given) budget range chosen = subst (λ (b : ℕ). (1 ≤ b) × (b ≤ period)) (sym chosen) range
chosen_one period None budget range chosen = chosen

chosen_in_period : (sys : SystemView) → IsSystem sys → (budgets : List ℕ) → AreChosen sys budgets → (q : ℕ)
    → q < length sys.parts → InPeriod sys budgets q
chosen_in_period sys is budgets chosen q h =
    chosen_one (part_at sys q).period (part_at sys q).budget (budget_at budgets q) (is.parts q h).budget
    (chosen.each q h)

-- on a flat system each of the first n leaves passes under its chosen budget, or one must miss
abbrev LeafPasses : SystemView → List ℕ → ℕ → Type 0
LeafPasses sys budgets q =
    Passes (part_at sys q).sched (own_tasks_at sys q) (sbf (part_at sys q).period (budget_at budgets q))

leaf_passes_or_misses : (sys : SystemView) → IsSystem sys → (budgets : List ℕ) → AreChosen sys budgets → (q : ℕ)
    → q < length sys.parts → LeafPasses sys budgets q ⊎ LeafMustMiss sys q (budget_at budgets q)
leaf_passes_or_misses sys is budgets chosen q h =
    let laws
    = periodic_laws (part_at sys q).period (budget_at budgets q) (is.parts q h).period.0
    (chosen_in_period sys is budgets chosen q h).1 in
    elim (passes_or_short (part_at sys q).sched (own_tasks_at sys q) (leaf_constrained sys is q h) laws) [
      | inl passes ↦ inl passes
      | inr r ↦ inr (short_misses (part_at sys q).sched (own_tasks_at sys q) (leaf_constrained sys is q h) laws r.0 r.1)
    ]

leaves_pass_or_fail : (sys : SystemView) → IsSystem sys → (budgets : List ℕ) → AreChosen sys budgets → (n : ℕ)
    → n ≤ length sys.parts → ((q : ℕ) → q < n → LeafPasses sys budgets q) ⊎ ChoiceFails sys budgets
leaves_pass_or_fail sys is budgets chosen zero l = inl (λ q h. absurd (omega arith))
leaves_pass_or_fail sys is budgets chosen (suc n) l = elim (leaves_pass_or_fail sys is budgets chosen n (omega arith)) [
  | inr fails ↦ inr fails
  | inl all ↦ elim (leaf_passes_or_misses sys is budgets chosen n (omega arith)) [
    | inl passes ↦
        inl (λ q h. elim (cases_eq q n)
        [ inl e ↦ subst (LeafPasses sys budgets) (sym e) passes | inr ne ↦ all q (omega arith) ])
    | inr misses ↦ inr (at_leaf n (omega arith) misses)
  ]
]

-- a budget that is chosen and passes is no smaller than the one that stands
no_smaller : (sys : SystemView) (settled budgets : List ℕ) (q : ℕ) (given : Option ℕ) → BudgetStands sys settled q given
    → IsChosen (part_at sys q).period given (budget_at budgets q)
    → Passes (part_at sys q).sched (node_tasks sys settled (Part q)) (sbf (part_at sys q).period (budget_at budgets q))
    → budget_at settled q ≤ budget_at budgets q
no_smaller sys settled budgets q (Some given) stands chosen passes = omega (arith, stands, chosen)
no_smaller sys settled budgets q None stands chosen passes =
    elim (cases_lt (budget_at budgets q) (budget_at settled q)) [
      | inl less ↦ absurd (stands.1.least (budget_at budgets q) less passes)
      | inr fine ↦ fine
    ]

-- so the servers of a node ask for no less
heavier_children : (sys : SystemView) (less more : List ℕ)
    → ((q : ℕ) → q < length sys.parts → budget_at less q ≤ budget_at more q) → (node : Place) (n : ℕ)
    → n ≤ length sys.parts → Heavier (child_tasks sys less node n) (child_tasks sys more node n)
heavier_children sys less more each node zero l =
    rw (child_tasks-zero sys less node, child_tasks-zero sys more node)
    (record { same_length = refl; each = λ i h. absurd (omega arith) })
heavier_children sys less more each node (suc n) l =
    rw (child_tasks-suc sys less node n, child_tasks-suc sys more node n)
    (heavier_push_if (child_tasks sys less node n) (child_tasks sys more node n) (is_child sys node n)
    (part_at sys n).period (part_at sys n).period (budget_at less n) (budget_at more n) (λ e. each n (omega arith))
    (heavier_children sys less more each node n (omega arith)))

-- on a flat system a refused core must miss under every choice whose leaves pass
core_choice_fails : (sys : SystemView) → IsSystem sys → (c : ℕ) (short : Short)
    → FirstRefusal sys (Overfull (Core c) short) → IsFlat sys → (budgets : List ℕ) → AreChosen sys budgets
    → ((q : ℕ) → q < length sys.parts → LeafPasses sys budgets q) → ChoiceFails sys budgets
core_choice_fails sys is c short refused flat budgets chosen pass =
    let no_less : (q : ℕ) → q < length sys.parts → budget_at refused.budgets q ≤ budget_at budgets q =
    λ q h. no_smaller sys refused.budgets budgets q (part_at sys q).budget
    (refused.settled.assigned.stands q (omega arith) h) (chosen.each q h)
    (subst (λ (tasks : List SporadicTask). Passes (part_at sys q).sched tasks
    (sbf (part_at sys q).period (budget_at budgets q)))
    (sym (leaf_tasks sys refused.budgets q (flat.parts q h))) (pass q h)) in
    let full : (core_at sys c).supply ≡ None = flat.cores c refused.is_node in
    let falls : FallsShort (core_at sys c).sched (server_tasks sys budgets (Core c)) (λ t. t) short =
    heavier_falls (core_at sys c).sched (server_tasks sys refused.budgets (Core c)) (server_tasks sys budgets (Core c))
    (heavier_children sys refused.budgets budgets no_less (Core c) (length sys.parts) (omega arith)) (λ t. t) short
    (core_falls sys c short (core_at sys c).supply full (server_tasks sys refused.budgets (Core c)) refused.cause.1) in
    at_core c (shows_by (server_tasks sys budgets (Core c)) short) (shows_by (server_tasks sys budgets (Core c)) short)
    refused.is_node
    (core_fails sys is budgets c refused.is_node
    (servers_constrained sys budgets (Core c) (λ q h child. chosen_in_period sys is budgets chosen q h)) short falls
    (shows_by (server_tasks sys budgets (Core c)) short) (omega arith))

-- a refused leaf must miss under every choice
leaf_choice_fails : (sys : SystemView) (budgets : List ℕ) (q : ℕ) → q < length sys.parts → (given : Option ℕ)
    → LeafIsOverfull sys q given → IsChosen (part_at sys q).period given (budget_at budgets q) → ChoiceFails sys budgets
leaf_choice_fails sys budgets q h (Some given) overfull chosen =
    at_leaf q h (subst (LeafMustMiss sys q) (sym chosen) overfull)
leaf_choice_fails sys budgets q h None overfull chosen = at_leaf q h (overfull (budget_at budgets q) chosen.1)

-- a leaf that has no budget must miss with every one up to its period
unassigned_leaf : (sys : SystemView) → IsSystem sys → (q : ℕ) (short : Short)
    → FirstUnassigned sys (Overfull (Part q) short) → is_leaf_at sys q ≡ true
    → LeafIsOverfull sys q (part_at sys q).budget
unassigned_leaf sys is q short first leaf =
    leaf_overfull sys is q first.is_node (part_at sys q).budget (is.parts q first.is_node).budget short
    (subst (λ (tasks : List SporadicTask). IsShortfall (part_at sys q).sched tasks
    (sbf (part_at sys q).period (largest_budget (part_at sys q).budget (part_at sys q).period)) short)
    (leaf_tasks sys first.budgets q leaf) first.cause.1)

-- what a first refusal says holds
pub refusal_holds : (sys : SystemView) → IsSystem sys → (r : Refusal) → FirstRefusal sys r → RefusalHolds sys r
refusal_holds sys is (Overfull (Part q) short) refused = record {
  leaf = λ leaf. refused_leaf sys is q short refused leaf;
  choices =
      λ flat budgets chosen. leaf_choice_fails sys budgets q refused.is_node (part_at sys q).budget
      (refused_leaf sys is q short refused (flat.parts q refused.is_node)) (chosen.each q refused.is_node);
}
refusal_holds sys is (Overfull (Core c) short) refused = record {
  core = λ full. record {
    budgets = refused.budgets;
    settled = refused.settled;
    misses = λ n l.
        core_fails sys is refused.budgets c refused.is_node (servers_constrained sys refused.budgets (Core c)
        (λ q h child. assigned_in_period sys is refused.budgets 0 refused.settled.assigned q (omega arith) h))
        short
        (core_falls sys c short (core_at sys c).supply full (server_tasks sys refused.budgets (Core c)) refused.cause.1)
        n l;
  };
  choices = λ flat budgets chosen. elim (leaves_pass_or_fail sys is budgets chosen (length sys.parts) (omega arith)) [
    | inl pass ↦ core_choice_fails sys is c short refused flat budgets chosen pass
    | inr fails ↦ fails
  ];
}
refusal_holds sys is (Wide node) refused = tt
refusal_holds sys is NoMemory refused = tt

-- what is said of the first part that has no budget holds, and no core is refused for want of one
pub unassigned_holds : (sys : SystemView) → IsSystem sys → (r : Refusal) → FirstUnassigned sys r → RefusalHolds sys r
unassigned_holds sys is (Overfull (Part q) short) first = record {
  leaf = λ leaf. unassigned_leaf sys is q short first leaf;
  choices =
      λ flat budgets chosen. leaf_choice_fails sys budgets q first.is_node (part_at sys q).budget
      (unassigned_leaf sys is q short first (flat.parts q first.is_node)) (chosen.each q first.is_node);
}
unassigned_holds sys is (Overfull (Core c) short) first = absurd (let e = first.computed in cc)
unassigned_holds sys is (Wide node) first = tt
unassigned_holds sys is NoMemory first = tt
