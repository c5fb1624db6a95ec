-- What is stolen from a VCPU that is isolated.
use Rattle.std.specs.Prelude.{◌≡◌, ℕ, ◌<◌, Bool, true, List, length, Option, Some}
use Rattle.slot_model.specs.Run.{held, holds}
use Rattle.tree_model.specs.declared.place.Place.TheVariants.{Core}
use Rattle.tree_model.specs.View.{SystemView}
use Rattle.tree_model.specs.System.{IsSystem, part_at}
use Rattle.tree_model.specs.Tree.{is_child, budget_at}
use Rattle.tree_model.specs.Plans.{IsPlan}
use Rattle.trace_file.specs.declared.event.Event.{Event}
use Rattle.trace_file.specs.Events.{end_of, start_of as start_in}
use Rattle.trace_file.specs.Periods.{period_of, budget_of, blocked, running}
use Rattle.release_file.specs.declared.workload.Wake.{Wake}
use Rattle.release_file.specs.Workload.{start_of, is_blocked_at, IsWorkload}
use Rattle.rtds_model.specs.Rtds.{CoreRun}
use Rattle.rtds_model.specs.Demand.{later}
use Rattle.rtds_model.specs.Giving.{IsStartedOn}
use Rattle.rtds_trace.specs.Printed.{IsRtdsTrace}
use Rattle.isolation.specs.Demand.{no_tie, IsIsolatedBy}
use Rattle.isolation.specs.Open.{OpenRun}
use Rattle.isolation.specs.InTrace.{IsRunLength}
use Rattle.halting.specs.Stolen.{Spares}

-- what a run of a core is: `CoreRun`, in which the first in the file goes first of those of one
-- deadline, or `OpenRun`, however ties are broken
abbrev pub RunKind : Type 1
RunKind = SystemView → List ℕ → List Wake → ℕ → ℕ → List (Option ℕ) → Type 0

-- the run in the order of the file is one of those that break ties in any way
abbrev pub FileOrderIsOpen : Type 0
FileOrderIsOpen =
    (sys : SystemView) (budgets : List ℕ) (rows : List Wake) (n c : ℕ) (run : List (Option ℕ)) →
    CoreRun sys budgets rows n c run → OpenRun sys budgets rows n c run

-- whether VCPU v has its core at slot x
abbrev pub has_slot : List (Option ℕ) → ℕ → ℕ → Bool
has_slot run v x = holds (held run x) v

-- in no period of v, as far as it lies within n slots, more is stolen from it than the period has
-- beyond its budget
abbrev pub IsSpared : SystemView → List ℕ → List Wake → ℕ → List (Option ℕ) → ℕ → Type 0
IsSpared sys budgets rows n run v =
    Spares (is_blocked_at rows v) (has_slot run v) (part_at sys v).period (budget_at budgets v)
    (start_of rows v) n

-- so it is in each run of each workload, whatever starts, blocks and wakes, v too
abbrev pub IsSparedInRuns : RunKind → SystemView → List ℕ → ℕ → ℕ → Type 0
IsSparedInRuns IsRun sys budgets c v =
    (rows : List Wake) (n : ℕ) (run : List (Option ℕ)) → IsWorkload sys rows →
    IsRun sys budgets rows n c run → IsStartedOn sys rows c v →
    IsSpared sys budgets rows n run v

-- of a VCPU that is isolated: in each run where it is so with ties open, else in the run in the
-- order of the file
abbrev pub IsolatedAreSpared : Type 0
IsolatedAreSpared =
    (sys : SystemView) (budgets : List ℕ) (c v t : ℕ) → IsPlan sys budgets →
    (IsIsolatedBy no_tie sys budgets c v t → IsSparedInRuns OpenRun sys budgets c v)
    × (IsIsolatedBy later sys budgets c v t → IsSparedInRuns CoreRun sys budgets c v)

-- the same of a trace, in nanoseconds, of v that starts at moment f
abbrev pub IsSparedInTrace : SystemView → List ℕ → List Event → ℕ → ℕ → Type 0
IsSparedInTrace sys budgets events v f =
    Spares (blocked events v) (running sys events v) (period_of sys v) (budget_of budgets v) f
    (end_of events)

-- and of the trace of the run of each workload, over any number of slots
abbrev pub IsSparedInTraces : SystemView → List ℕ → ℕ → Type 0
IsSparedInTraces sys budgets v =
    (rows : List Wake) (slots : ℕ) (events : List Event) (f : ℕ) → IsWorkload sys rows →
    IsRunLength slots → IsRtdsTrace sys budgets rows slots events → start_in events v ≡ Some f →
    IsSparedInTrace sys budgets events v f

abbrev pub IsolatedAreSparedInTraces : Type 0
IsolatedAreSparedInTraces =
    (sys : SystemView) (budgets : List ℕ) (c v t : ℕ) → IsSystem sys → IsPlan sys budgets →
    v < length sys.parts → is_child sys (Core c) v ≡ true →
    IsIsolatedBy later sys budgets c v t → IsSparedInTraces sys budgets v
