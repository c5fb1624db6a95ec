use Rattle.std.proofs.Common.{◌≡◌, ◌≤◌, ◌<◌, ℕ, false, get_or}
use Rattle.csv_rows.specs.inner.Stops.{is_stop}
use Rattle.csv_rows.proofs.stops.next_stop_by_one.Given as goal

-- no byte so far is a stop
abbrev pub invariant-loop-at : goal.invariant-loop-at
invariant-loop-at l = (k : ℕ) → l.from ≤ k → k < l.at → is_stop (get_or l.text k 0) ≡ false
