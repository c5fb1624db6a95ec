-- The same times in a smaller unit, as slots of a microsecond in nanoseconds.
use Rattle.std.specs.Prelude.{ℕ, ◌*◌, ◌≤◌, List, map}
use Rattle.slot_model.specs.declared.sched.Sched.{Sched}
use Rattle.slot_model.specs.Task.{SporadicTask, jittery_task, AreConstrained}
use Rattle.slot_model.specs.Bound.{sbf, Passes}

-- a task whose times are all so many times as long
abbrev pub task_times : ℕ → SporadicTask → SporadicTask
task_times unit task =
    jittery_task (task.period * unit) (task.deadline * unit) (task.work * unit) (task.jitter * unit)

abbrev pub tasks_times : ℕ → List SporadicTask → List SporadicTask
tasks_times unit tasks = map (task_times unit) tasks

-- what passes its test under a budget in each period passes it with all times so many times as long
abbrev pub PassesInUnits : Type 0
PassesInUnits =
    (unit : ℕ) (sched : Sched) (tasks : List SporadicTask) (period budget : ℕ) → 1 ≤ unit →
    AreConstrained tasks → 1 ≤ period → budget ≤ period → Passes sched tasks (sbf period budget) →
    Passes sched (tasks_times unit tasks) (sbf (period * unit) (budget * unit))

-- and their deadlines are constrained as before
abbrev pub ConstrainedInUnits : Type 0
ConstrainedInUnits =
    (unit : ℕ) (tasks : List SporadicTask) → 1 ≤ unit → AreConstrained tasks →
    AreConstrained (tasks_times unit tasks)
