-- What the two searches find: the greatest budget of the leaf with which the nodes above it pass,
-- and the greatest work of each of its tasks with which it passes under that budget.
use Rattle.std.specs.Prelude.{◌≡◌, ℕ, ◌<◌, ◌≤◌, List, length, slice_index_or, slice_set, Option, Some, None}
use Rattle.slot_model.specs.declared.sched.Sched.{Sched}
use Rattle.slot_model.specs.Task.{SporadicTask, jittery_task, room_of, task_at}
use Rattle.slot_model.specs.Bound.{sbf, TestPasses}
use Rattle.tree_model.specs.View.{PartView, SystemView}
use Rattle.tree_model.specs.System.{part_at}
use Rattle.admission_session.specs.Leaves.{with_changed}
use Rattle.admission_session.specs.Answers.{IsAdmitted}

-- the part, and the system, in which this budget is given for it, and nothing else is changed
abbrev pub part_with_budget : PartView → ℕ → PartView
part_with_budget part budget = record part { budget = Some budget }

abbrev pub with_budget : SystemView → ℕ → ℕ → SystemView
with_budget sys q budget = with_changed sys q (part_with_budget (part_at sys q) budget)

-- where a budget is given it is the only one, and else there are those up to the period
abbrev pub IsOpenTo : Option ℕ → ℕ → ℕ → Type 0
IsOpenTo (Some given) period budget = budget ≡ given
IsOpenTo None period budget = budget ≤ period

-- the greatest budget with which the system is admitted that gives it to the leaf
pub record IsMostBudget (sys : SystemView) (q most : ℕ) : Type 0 where
  pub some : 1 ≤ most
  pub in_period : most ≤ (part_at sys q).period
  pub admitted : IsAdmitted (with_budget sys q most)
  pub able : IsOpenTo (part_at sys q).budget (part_at sys q).period most
  pub greatest : (budget : ℕ) → most < budget →
      IsOpenTo (part_at sys q).budget (part_at sys q).period budget →
      IsAdmitted (with_budget sys q budget) → ⊥

-- the tasks of which task i has other work
abbrev pub tasks_with : List SporadicTask → ℕ → ℕ → List SporadicTask
tasks_with tasks i work =
    let task = task_at tasks i in
    slice_set tasks i (jittery_task task.period task.deadline work task.jitter)

-- the greatest work of task i with which the tasks pass under a budget of a period
pub record IsMostPassing (sched : Sched) (tasks : List SporadicTask) (period budget i most : ℕ)
    : Type 0 where
  pub no_less : (task_at tasks i).work ≤ most
  pub in_room : most ≤ room_of (task_at tasks i)
  pub passes : TestPasses sched (tasks_with tasks i most) (sbf period budget) period
  pub past : (work : ℕ) → most < work → work ≤ room_of (task_at tasks i) →
      TestPasses sched (tasks_with tasks i work) (sbf period budget) period → ⊥

-- one for each task, in order, as far as they are found
pub record AreMostPassing (sched : Sched) (tasks : List SporadicTask) (period budget : ℕ)
    (works : List ℕ) : Type 0 where
  pub each : (i : ℕ) → i < length works →
      IsMostPassing sched tasks period budget i (slice_index_or works i 0)
