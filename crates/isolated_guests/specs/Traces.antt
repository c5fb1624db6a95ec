-- What a trace means for the guest on a leaf from which little is stolen in it, whatever scheduler
-- made it. Moments are nanoseconds, and a slot has 1000 of them.
use Rattle.std.specs.Prelude.{◌≡◌, ℕ, ◌<◌, true, List, length, Option}
use Rattle.slot_model.specs.declared.job.Job.{Job}
use Rattle.slot_model.specs.Task.{SporadicTask}
use Rattle.slot_model.specs.Order.{before_of}
use Rattle.slot_model.specs.Bound.{sbf, Passes}
use Rattle.slot_model.specs.Run.{guest}
use Rattle.tree_model.specs.View.{SystemView}
use Rattle.tree_model.specs.System.{IsSystem, part_at, own_tasks_at, is_leaf_at}
use Rattle.tree_model.specs.Tree.{budget_at}
use Rattle.tree_model.specs.Plans.{IsPlan}
use Rattle.trace_file.specs.declared.event.Event.{Event}
use Rattle.trace_file.specs.Events.{end_of}
use Rattle.trace_file.specs.Periods.{blocked, running}
use Rattle.halting.specs.Halting.{HaltingRun, NoneLost}
use Rattle.halting.specs.Units.{tasks_times}
use Rattle.isolated_guests.specs.Spared.{IsSparedInTrace}

-- the tasks of leaf v in nanoseconds
abbrev pub tasks_in_trace : SystemView → ℕ → List SporadicTask
tasks_in_trace sys v = tasks_times 1000 (own_tasks_at sys v)

-- the guest on leaf v, which starts at moment f: a legal release, whose jobs it runs by its
-- scheduler at the moments at which v has its core. It halts only where none of them is pending.
abbrev pub IsGuestInTrace : SystemView → List Event → (v f : ℕ) → List Job → List (Option ℕ) →
    Type 0
IsGuestInTrace sys events v f jobs own_run =
    let tasks = tasks_in_trace sys v in
    HaltingRun (blocked events v) (running sys events v) f (end_of events) guest
    (before_of (part_at sys v).sched tasks) tasks jobs own_run

-- leaf v passes its test under its budget
abbrev pub LeafPasses : SystemView → List ℕ → ℕ → Type 0
LeafPasses sys budgets v =
    let part = part_at sys v in
    Passes part.sched (own_tasks_at sys v) (sbf part.period (budget_at budgets v))

-- then it loses no job up to the end of a trace in which it is spared
abbrev pub KeepsInTraces : Type 0
KeepsInTraces =
    (sys : SystemView) (budgets : List ℕ) (events : List Event) (v f : ℕ) (jobs : List Job)
    (own_run : List (Option ℕ)) → IsSystem sys → IsPlan sys budgets → v < length sys.parts →
    is_leaf_at sys v ≡ true → LeafPasses sys budgets v →
    IsSparedInTrace sys budgets events v f → IsGuestInTrace sys events v f jobs own_run →
    NoneLost (tasks_in_trace sys v) jobs own_run
