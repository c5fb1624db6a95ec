-- Budgets that admit a system lose no job anywhere, and every smaller whole budget of a computed
-- leaf must miss.
use Rattle.std.proofs.Common.{◌≡◌, ℕ, ◌<◌, Option, Some, None, List, length, arith, subst}
use Rattle.slot_model.specs.declared.sched.Sched.{Sched}
use Rattle.slot_model.specs.Task.{SporadicTask, AreConstrained}
use Rattle.slot_model.specs.Order.{before_of}
use Rattle.slot_model.specs.Bound.{sbf, Passes, IsLeastBudget}
use Rattle.slot_model.specs.Miss.{NoJobLost}
use Rattle.slot_model.proofs.FullSupply.{full_laws}
use Rattle.slot_model.proofs.WorstPattern.{periodic_laws}
use Rattle.least_budget.proofs.LevelRuns.{level_no_loss}
use Rattle.least_budget.proofs.Budgets.{not_passing_misses}
use Rattle.tree_model.specs.declared.place.Place.TheVariants.{Core, Part}
use Rattle.tree_model.specs.View.{SystemView}
use Rattle.tree_model.specs.System.{IsSystem, IsCoreSupply, core_at, part_at, own_tasks_at}
use Rattle.tree_model.specs.Tree.{core_bound, CoreConforms, budget_at, server_tasks, node_tasks, NoLoss}
use Rattle.tree_model.specs.Admission.{Admitted, BudgetStands}
use Rattle.tree_model.proofs.NodeTasks.{leaf_tasks, inner_tasks}
use Rattle.tree_model.proofs.Parents.{servers_constrained, leaf_constrained}
use Rattle.tree_model.proofs.InRange.{InPeriod, admitted_in_period}
use Rattle.compose_tree.specs.Truth.{IsTight}
use Rattle.compose_tree.specs.Keeping.{Keeping}
use Rattle.compose_tree.proofs.TreeRuns.{tree_no_loss}
use Rattle.compose_tree.proofs.TreeExists.{started_tree_exists}

-- a core that passes under its supply loses no job over it
core_keeps : (supply : Option (ℕ × ℕ)) → IsCoreSupply supply → (sched : Sched) (tasks : List SporadicTask)
    → AreConstrained tasks → Passes sched tasks (core_bound supply)
    → NoJobLost (CoreConforms supply) (before_of sched tasks) tasks
core_keeps None range sched tasks fits passes = level_no_loss sched tasks fits full_laws passes
core_keeps (Some supply) range sched tasks fits passes =
    level_no_loss sched tasks fits (periodic_laws supply.0 supply.1 range.0.0 range.2) passes

-- every node of an admitted system loses no job under a supply of its own kind
pub admitted_keeping : (sys : SystemView) → IsSystem sys → (budgets : List ℕ) → Admitted sys budgets
    → Keeping sys budgets
admitted_keeping sys is budgets a =
    let range : (q : ℕ) → q < length sys.parts → InPeriod sys budgets q = admitted_in_period sys is budgets a in
    record {
      budgets_fit = range;
      cores =
          λ c h. core_keeps (core_at sys c).supply (is.supplies c h) (core_at sys c).sched
          (server_tasks sys budgets (Core c)) (servers_constrained sys budgets (Core c) (λ q i child. range q i))
          (a.passes (Core c) h).1;
      inner = λ q h inner.
          level_no_loss (part_at sys q).sched (server_tasks sys budgets (Part q))
          (servers_constrained sys budgets (Part q) (λ r i child. range r i))
          (periodic_laws (part_at sys q).period (budget_at budgets q) (is.parts q h).period.0 (range q h).1)
          (subst (λ (tasks : List SporadicTask). Passes (part_at sys q).sched tasks
          (sbf (part_at sys q).period (budget_at budgets q))) (inner_tasks sys budgets q inner)
          (a.passes (Part q) h).1);
      leaves = λ q h leaf.
          level_no_loss (part_at sys q).sched (own_tasks_at sys q) (leaf_constrained sys is q h)
          (periodic_laws (part_at sys q).period (budget_at budgets q) (is.parts q h).period.0 (range q h).1)
          (subst (λ (tasks : List SporadicTask). Passes (part_at sys q).sched tasks
          (sbf (part_at sys q).period (budget_at budgets q))) (leaf_tasks sys budgets q leaf)
          (a.passes (Part q) h).1);
    }

-- what is admitted loses no job, at any node, in any permitted run of the tree, and such a run
-- exists
pub admitted_no_loss : (sys : SystemView) → IsSystem sys → (budgets : List ℕ) → Admitted sys budgets
    → NoLoss sys budgets
admitted_no_loss sys is budgets a = record {
  some_run = λ starts n supplies jobs inputs. started_tree_exists sys budgets starts n supplies jobs is;
  keeps =
      λ starts n supplies jobs core_runs part_runs inputs tree. tree_no_loss sys budgets starts n supplies jobs
      core_runs part_runs is (admitted_keeping sys is budgets a) inputs tree;
}

-- a computed budget is the least that passes
least_of : (sys : SystemView) (budgets : List ℕ) (q : ℕ) (given : Option ℕ) → given ≡ None
    → BudgetStands sys budgets q given
    → IsLeastBudget (part_at sys q).sched (node_tasks sys budgets (Part q)) (part_at sys q).period (budget_at budgets q)
least_of sys budgets q (Some given) e stands = cc
least_of sys budgets q None e stands = stands.1

-- every whole budget below a computed one of a leaf must miss
pub admitted_tight : (sys : SystemView) → IsSystem sys → (budgets : List ℕ) → Admitted sys budgets → IsTight sys budgets
admitted_tight sys is budgets a = record {
  below = λ q h leaf none b less.
      let least : IsLeastBudget (part_at sys q).sched (own_tasks_at sys q) (part_at sys q).period
      (budget_at budgets q)
      =
      subst (λ (tasks : List SporadicTask). IsLeastBudget (part_at sys q).sched tasks (part_at sys q).period
      (budget_at budgets q)) (leaf_tasks sys budgets q leaf)
      (least_of sys budgets q (part_at sys q).budget none (a.assigned.stands q (omega arith) h)) in
      not_passing_misses (part_at sys q).sched (own_tasks_at sys q) (leaf_constrained sys is q h) (part_at sys q).period
      b (is.parts q h).period.0 (omega (arith, least.in_range)) (least.least b less);
}
