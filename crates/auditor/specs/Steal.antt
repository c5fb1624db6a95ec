-- What is found and counted of the time that is stolen from VCPUs in a whole trace.
use Rattle.std.specs.Prelude.{◌≡◌, ◌≢◌, ℕ, suc, ◌+◌, ◌<◌, ◌≤◌, nat_le, List, length, slice_index_or, Option, Some, None}
use Rattle.slot_model.specs.Slots.{sum_below, count_below}
use Rattle.csv_rows.specs.Reading.{records_of}
use Rattle.tree_model.specs.View.{SystemView}
use Rattle.trace_file.specs.declared.event.Event.{Event}
use Rattle.trace_file.specs.Events.{start_of, end_of}
use Rattle.trace_file.specs.File.{Spells}
use Rattle.trace_file.specs.Rules.{Kept}
use Rattle.trace_file.specs.Periods.{period_of, budget_of, running, blocked, begins, HasPeriod}
use Rattle.halting.specs.Stolen.{stolen_in}
use Rattle.vcpu_watch.specs.Numbers.{IsNumberOf, IsMostOf}
use Rattle.auditor.specs.declared.steal.StealFinding.{StealFinding}
use Rattle.auditor.specs.declared.steal.StealFinding.TheVariants.{Yes, Denied}
use Rattle.auditor.specs.declared.steal.StealTally.{StealTally}

-- the time that is stolen from VCPU v, started at f, in its period k
abbrev pub stolen_of : SystemView → List Event → ℕ → ℕ → ℕ → ℕ
stolen_of sys events v f k =
    stolen_in (blocked events v) (running sys events v) (period_of sys v) f (end_of events) k

-- A period is denied when more is stolen in it than it has beyond the budget, whether it ends by
-- the end of the trace or is cut by it.
pub record IsDenied (sys : SystemView) (budgets : List ℕ) (events : List Event) (v f k : ℕ)
    : Type 0 where
  pub period : HasPeriod sys events v f k
  pub denied : period_of sys v < stolen_of sys events v f k + budget_of budgets v

-- It is kept when it ends by the end of the trace and no more is stolen in it.
pub record IsKept (sys : SystemView) (budgets : List ℕ) (events : List Event) (v f k : ℕ)
    : Type 0 where
  pub period : HasPeriod sys events v f k
  pub ended : begins (period_of sys v) f (suc k) ≤ end_of events
  pub kept : stolen_of sys events v f k + budget_of budgets v ≤ period_of sys v

-- no period of a started VCPU is denied
abbrev pub NoneDenied : SystemView → List ℕ → List Event → Type 0
NoneDenied sys budgets events = (v f k : ℕ) → IsDenied sys budgets events v f k → ⊥

-- of all periods that are denied this one begins first, and of several that begin then it is that
-- of the VCPU that stands first in the file
pub record IsFirstDenied (sys : SystemView) (budgets : List ℕ) (events : List Event) (v f k : ℕ)
    : Type 0 where
  pub denied : IsDenied sys budgets events v f k
  pub least : (w g j : ℕ) → IsDenied sys budgets events w g j
      → begins (period_of sys v) f k ≤ begins (period_of sys w) g j
  pub first : (w g j : ℕ) → w < v → IsDenied sys budgets events w g j
      → begins (period_of sys w) g j ≢ begins (period_of sys v) f k

-- How many periods of a VCPU end by the end of the trace, and how many of all VCPUs. None is
-- shorter than a moment, so its number is less than the moment of the end.
abbrev pub ended_of : SystemView → List Event → ℕ → Option ℕ → ℕ
ended_of sys events v None = 0
ended_of sys events v (Some f) =
    count_below (λ k. nat_le (begins (period_of sys v) f (suc k)) (end_of events)) (end_of events)

abbrev pub ended_periods : SystemView → List Event → ℕ
ended_periods sys events =
    sum_below (λ v. ended_of sys events v (start_of events v)) (length sys.parts)

-- the first denied period, where it begins, and the time that is stolen in it
pub record FoundDenied (sys : SystemView) (budgets : List ℕ) (events : List Event)
    (v from stolen : ℕ) : Type 0 where
  pub start : ℕ
  pub period : ℕ
  pub first : IsFirstDenied sys budgets events v start period
  pub begins_at : from ≡ begins (period_of sys v) start period
  pub time : stolen ≡ stolen_of sys events v start period

-- none is denied, with the number of periods that end by the end of the trace; else the first
abbrev pub IsStealFinding : SystemView → List ℕ → List Event → StealFinding → Type 0
IsStealFinding sys budgets events (Yes periods) =
    NoneDenied sys budgets events × (periods ≡ ended_periods sys events)
IsStealFinding sys budgets events (Denied v from stolen) =
    FoundDenied sys budgets events v from stolen

-- this time is stolen from VCPU v in a period that begins before the end of the trace
pub record IsTimeStolen (sys : SystemView) (events : List Event) (v stolen : ℕ) : Type 0 where
  pub f : ℕ
  pub k : ℕ
  pub period : HasPeriod sys events v f k
  pub time : stolen ≡ stolen_of sys events v f k

-- Of VCPU v: how many of its periods begin before the end of the trace, how many are kept and
-- denied, and the greatest time that is stolen from it in any.
pub record IsStealTally (sys : SystemView) (budgets : List ℕ) (events : List Event) (v : ℕ)
    (tally : StealTally) : Type 0 where
  pub begun : IsNumberOf (λ k. (f : ℕ) × HasPeriod sys events v f k) tally.begun
  pub kept : IsNumberOf (λ k. (f : ℕ) × IsKept sys budgets events v f k) tally.kept
  pub denied : IsNumberOf (λ k. (f : ℕ) × IsDenied sys budgets events v f k) tally.denied
  pub most : IsMostOf (IsTimeStolen sys events v) tally.most

-- no periods
abbrev pub no_steal_tally : StealTally
no_steal_tally = record { begun = 0; kept = 0; denied = 0; most = None }

abbrev pub steal_tally_at : List StealTally → ℕ → StealTally
steal_tally_at tallies v = slice_index_or tallies v no_steal_tally

-- one for each part, in the order of the file
pub record AreStealTallies (sys : SystemView) (budgets : List ℕ) (events : List Event)
    (tallies : List StealTally) : Type 0 where
  pub each_part : length tallies ≡ length sys.parts
  pub each : (v : ℕ) → v < length sys.parts
      → IsStealTally sys budgets events v (steal_tally_at tallies v)

-- a text spells events that keep the rules, and this is found and counted of them
pub record IsStolenOf (sys : SystemView) (budgets : List ℕ) (text : List ℕ) (finding : StealFinding)
    (tallies : List StealTally) : Type 0 where
  pub events : List Event
  pub spelled : Spells sys (records_of text) events
  pub kept : Kept sys events
  pub found : IsStealFinding sys budgets events finding
  pub counted : AreStealTallies sys budgets events tallies
