-- Which moments of a VCPU are counted, which excuse a period from its judgement, and how much time
-- its periods may have.
use Rattle.std.specs.Prelude.{◌≡◌, ℕ, ◌-◌, Bool, true, false, not, ◌&&◌, if◌then◌else◌, List, Option, Some, None}
use Rattle.tree_model.specs.View.{SystemView}
use Rattle.tree_model.specs.System.{part_at}
use Rattle.trace_file.specs.declared.event.Event.{Event}
use Rattle.trace_file.specs.Events.{end_of}
use Rattle.trace_file.specs.Periods.{period_of, budget_of, running, blocked, is_judged, time_got, HasPeriod}
use Rattle.halting.specs.Stolen.{is_stolen}
use Rattle.vcpu_watch.specs.declared.watch.State.{State}
use Rattle.vcpu_watch.specs.declared.watch.Limits.{Limits}
use Rattle.vcpu_watch.specs.declared.watch.Breach.{Breach}
use Rattle.vcpu_watch.specs.Watch.{breach_of}
use Rattle.auditor.specs.declared.counted.Counted.{Counted}
use Rattle.auditor.specs.declared.counted.Counted.TheVariants.{Core, Stolen}

abbrev pub counts : Counted → SystemView → List Event → ℕ → ℕ → Bool
counts Core sys events v = running sys events v
counts Stolen sys events v = is_stolen (blocked events v) (running sys events v)

abbrev pub excuses : Counted → List Event → ℕ → ℕ → Bool
excuses Core events v = blocked events v
excuses Stolen events v = λ x. false

-- an audit asks for the budget, and for no more where there is no extra time; no more time may be
-- stolen than a period has beyond the budget
abbrev pub least_of : Counted → List ℕ → ℕ → Option ℕ
least_of Core budgets v = Some (budget_of budgets v)
least_of Stolen budgets v = None

abbrev pub most_of : Counted → SystemView → List ℕ → ℕ → Option ℕ
most_of Core sys budgets v =
    if (part_at sys v).extra then None else Some (budget_of budgets v)
most_of Stolen sys budgets v = Some (period_of sys v - budget_of budgets v)

abbrev pub limits_of : Counted → SystemView → List ℕ → ℕ → Limits
limits_of counted sys budgets v = record {
  period = period_of sys v;
  least = least_of counted budgets v;
  most = most_of counted sys budgets v;
}

-- how a VCPU that stands so is shown to its watch
abbrev pub shown : Counted → State → State
shown Core state = state
shown Stolen state = record {
  has_core = not state.is_blocked && not state.has_core;
  is_blocked = false;
}

-- the time that is counted of VCPU v, started at f, in its period k, and how that breaks its limits
abbrev pub time_of : Counted → SystemView → List Event → ℕ → ℕ → ℕ → ℕ
time_of counted sys events v f k =
    time_got (counts counted sys events v) (period_of sys v) f (end_of events) k

abbrev pub judged_at : Counted → SystemView → List Event → ℕ → ℕ → ℕ → Bool
judged_at counted sys events v f k =
    is_judged (excuses counted events v) (period_of sys v) f (end_of events) k

abbrev pub breach_at : Counted → SystemView → List ℕ → List Event → ℕ → ℕ → ℕ → Option Breach
breach_at counted sys budgets events v f k =
    breach_of (limits_of counted sys budgets v) (judged_at counted sys events v f k)
    (time_of counted sys events v f k)

-- it is judged, and it is broken in this way
pub record IsJudgedBy (counted : Counted) (sys : SystemView) (events : List Event) (v f k : ℕ)
    : Type 0 where
  pub period : HasPeriod sys events v f k
  pub judged : judged_at counted sys events v f k ≡ true

pub record Breaks (counted : Counted) (sys : SystemView) (budgets : List ℕ) (events : List Event)
    (v f k : ℕ) (breach : Breach) : Type 0 where
  pub period : HasPeriod sys events v f k
  pub so : breach_at counted sys budgets events v f k ≡ Some breach
