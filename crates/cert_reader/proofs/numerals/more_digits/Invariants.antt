use Rattle.std.proofs.Common.{◌≤◌, ◌-◌, length, decimal}
use Rattle.cert_reader.specs.inner.Text.{Stands}
use Rattle.cert_reader.proofs.numerals.more_digits.Given as goal

abbrev pub invariant-loop-digit : goal.invariant-loop-digit
invariant-loop-digit l =
    record { some : 1 ≤ l.number; stands : Stands l.bytes l.at l.to (decimal l.number); within : l.to ≤ length l.bytes }

abbrev pub decreases-loop-digit : goal.decreases-loop-digit
decreases-loop-digit l = length l.bytes - l.to
