use Rattle.std.proofs.Common.{◌-◌, length}
use Rattle.csv_rows.specs.inner.Stops.{PassesNoStop}
use Rattle.csv_rows.proofs.stops.next_stop.Given as goal

abbrev pub invariant-loop-at : goal.invariant-loop-at
invariant-loop-at l = PassesNoStop l.text l.from l.at

abbrev pub decreases-loop-at : goal.decreases-loop-at
decreases-loop-at l = length l.text - l.at
