-- Every node of a system keeps its deadlines by itself, over whatever supply of its own kind. This
-- reaches further than a run of the tree: what a VCPU is told to have of its core, in a run of
-- RTDS or in a trace, is such a supply wherever it has its budget in each period.
use Rattle.std.specs.Prelude.{◌≡◌, ℕ, ◌<◌, ◌≤◌, true, false, List, length}
use Rattle.slot_model.specs.Supply.{GivesBudget}
use Rattle.slot_model.specs.Order.{before_of}
use Rattle.slot_model.specs.Miss.{NoJobLost}
use Rattle.tree_model.specs.declared.place.Place.TheVariants.{Core, Part}
use Rattle.tree_model.specs.View.{SystemView}
use Rattle.tree_model.specs.System.{core_at, part_at, own_tasks_at, is_leaf_at}
use Rattle.tree_model.specs.Tree.{CoreConforms, budget_at, server_tasks}

-- No job of a server on a core is lost over any supply of the core; and none of an inner part or of
-- a leaf over any list of slots that gives its budget in each of its periods.
pub record Keeping (sys : SystemView) (budgets : List ℕ) : Type 0 where
  pub budgets_fit : (q : ℕ) → q < length sys.parts →
      (1 ≤ budget_at budgets q) × (budget_at budgets q ≤ (part_at sys q).period)
  pub cores : (c : ℕ) → c < length sys.cores →
      let tasks = server_tasks sys budgets (Core c) in
      NoJobLost (CoreConforms (core_at sys c).supply) (before_of (core_at sys c).sched tasks) tasks
  pub inner : (q : ℕ) → q < length sys.parts → is_leaf_at sys q ≡ false →
      let tasks = server_tasks sys budgets (Part q) in
      NoJobLost (GivesBudget (part_at sys q).period (budget_at budgets q))
      (before_of (part_at sys q).sched tasks) tasks
  pub leaves : (q : ℕ) → q < length sys.parts → is_leaf_at sys q ≡ true →
      NoJobLost (GivesBudget (part_at sys q).period (budget_at budgets q))
      (before_of (part_at sys q).sched (own_tasks_at sys q)) (own_tasks_at sys q)
