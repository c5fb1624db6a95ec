-- What is counted of the periods of a VCPU in a whole trace. Times are nanoseconds.
use Rattle.std.specs.Prelude.{◌≡◌, ℕ, ◌<◌, true, List, length, slice_index_or}
use Rattle.csv_rows.specs.Reading.{records_of}
use Rattle.tree_model.specs.View.{SystemView}
use Rattle.trace_file.specs.declared.event.Event.{Event}
use Rattle.trace_file.specs.Events.{end_of}
use Rattle.trace_file.specs.File.{Spells}
use Rattle.trace_file.specs.Rules.{Kept}
use Rattle.trace_file.specs.Periods.{period_of, blocked, is_judged, got_in, HasPeriod, IsShort, IsOver}
use Rattle.vcpu_watch.specs.declared.tally.Tally.{Tally}
use Rattle.vcpu_watch.specs.Numbers.{IsNumberOf, IsLeastOf, IsMostOf}
use Rattle.vcpu_watch.specs.Watch.{no_tally}
use Rattle.auditor.specs.declared.finding.Finding.{Finding}
use Rattle.auditor.specs.Finding.{IsFinding}

-- period k of VCPU v, started at f, is judged
pub record IsJudged (sys : SystemView) (events : List Event) (v f k : ℕ) : Type 0 where
  pub period : HasPeriod sys events v f k
  pub judged : is_judged (blocked events v) (period_of sys v) f (end_of events) k ≡ true

-- VCPU v has its core for this time in one of these periods
pub record IsTimeOf (sys : SystemView) (events : List Event) (v : ℕ) (Is : ℕ → ℕ → Type 0)
    (got : ℕ) : Type 0 where
  pub f : ℕ
  pub k : ℕ
  pub is : Is f k
  pub time : got ≡ got_in sys events v f k

-- Of VCPU v: how many of its periods begin before the end of the trace; how many are judged, short
-- and over, as an audit judges them; the least time that it gets in a judged one, and the greatest
-- in any.
pub record IsTally (sys : SystemView) (budgets : List ℕ) (events : List Event) (v : ℕ)
    (tally : Tally) : Type 0 where
  pub begun : IsNumberOf (λ k. (f : ℕ) × HasPeriod sys events v f k) tally.begun
  pub judged : IsNumberOf (λ k. (f : ℕ) × IsJudged sys events v f k) tally.judged
  pub short : IsNumberOf (λ k. (f : ℕ) × IsShort sys budgets events v f k) tally.short
  pub over : IsNumberOf (λ k. (f : ℕ) × IsOver sys budgets events v f k) tally.over
  pub least : IsLeastOf (IsTimeOf sys events v (IsJudged sys events v)) tally.least
  pub most : IsMostOf (IsTimeOf sys events v (HasPeriod sys events v)) tally.most

abbrev pub tally_at : List Tally → ℕ → Tally
tally_at tallies v = slice_index_or tallies v no_tally

-- one for each part, in the order of the file
pub record AreTallies (sys : SystemView) (budgets : List ℕ) (events : List Event)
    (tallies : List Tally) : Type 0 where
  pub each_part : length tallies ≡ length sys.parts
  pub each : (v : ℕ) → v < length sys.parts → IsTally sys budgets events v (tally_at tallies v)

-- a text spells events that keep the rules, and this is found and counted of them
pub record IsTalliedOf (sys : SystemView) (budgets : List ℕ) (text : List ℕ) (finding : Finding)
    (tallies : List Tally) : Type 0 where
  pub events : List Event
  pub spelled : Spells sys (records_of text) events
  pub kept : Kept sys events
  pub found : IsFinding sys budgets events finding
  pub counted : AreTallies sys budgets events tallies
