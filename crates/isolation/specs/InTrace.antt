-- What a VCPU keeps in the trace of the run of a workload, by what is counted there. Moments of a
-- trace are nanoseconds, and a slot has 1000 of them.
use Rattle.std.specs.Prelude.{◌≡◌, ℕ, suc, ◌+◌, ◌*◌, ◌<◌, ◌≤◌, false, List, Some}
use Rattle.tree_model.specs.View.{SystemView}
use Rattle.trace_file.specs.declared.event.Event.{Event}
use Rattle.trace_file.specs.Events.{start_of, end_of}
use Rattle.trace_file.specs.Periods.{period_of, budget_of, blocked, begins, got_in, IsShort}
use Rattle.release_file.specs.declared.workload.Wake.{Wake}
use Rattle.release_file.specs.Workload.{IsWorkload}
use Rattle.rtds_trace.specs.Printed.{IsRtdsTrace}
use Rattle.isolation.specs.Keeping.{PeriodsUpTo}

-- for how many slots a workload may be run
abbrev pub IsRunLength : ℕ → Type 0
IsRunLength slots = (1 ≤ slots) × (slots ≤ 1000000)

-- VCPU v starts at moment f, its period k ends within the trace, and at no moment of the last t
-- slots of that period it is blocked
pub record IsAwakeInTrace (sys : SystemView) (events : List Event) (v f k t : ℕ) : Type 0 where
  pub started : start_of events v ≡ Some f
  pub in_trace : begins (period_of sys v) f (suc k) ≤ end_of events
  pub awake : (x : ℕ) → begins (period_of sys v) f (suc k) ≤ x + t * 1000 →
      x < begins (period_of sys v) f (suc k) → blocked events v x ≡ false

-- in the trace of the run of each workload, over any number of slots, v has its core for at least
-- its budget in each period in whose last t slots it is not blocked
abbrev pub KeepsInTrace : SystemView → List ℕ → ℕ → ℕ → Type 0
KeepsInTrace sys budgets v t =
    (rows : List Wake) (slots : ℕ) (events : List Event) (f k : ℕ) → IsWorkload sys rows →
    IsRunLength slots → IsRtdsTrace sys budgets rows slots events →
    IsAwakeInTrace sys events v f k t → budget_of budgets v ≤ got_in sys events v f k

-- a workload, and the number of a period of v which in the trace of its run over so many slots, of
-- which there is one, is short; so it is judged, and v never blocks in it
pub record CanBeShort (sys : SystemView) (budgets : List ℕ) (v : ℕ) : Type 0 where
  pub rows : List Wake
  pub slots : ℕ
  pub number : ℕ
  pub is_workload : IsWorkload sys rows
  pub run_length : IsRunLength slots
  pub some_trace : (events : List Event) × IsRtdsTrace sys budgets rows slots events
  pub short : (events : List Event) → IsRtdsTrace sys budgets rows slots events →
      (f : ℕ) × IsShort sys budgets events v f number

-- there is one, where a run has room for three of the longest periods of core c
abbrev pub IsExposedInTrace : SystemView → List ℕ → ℕ → ℕ → Type 0
IsExposedInTrace sys budgets c v =
    (longest : ℕ) → PeriodsUpTo sys c longest → 3 * longest ≤ 1000000 → CanBeShort sys budgets v
