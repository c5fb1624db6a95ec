use Rattle.std.proofs.Common.{◌≤◌, ◌<◌, ◌-◌, ◌^◌, length, decimal}
use Rattle.cert_reader.specs.inner.Text.{Stands}
use Rattle.cert_reader.proofs.numerals.short_digits.Given as goal

abbrev pub invariant-loop-to : goal.invariant-loop-to
invariant-loop-to l = record {
  some : 1 ≤ l.number;
  stands : Stands l.bytes l.at l.to (decimal l.number);
  within : l.to ≤ length l.bytes;
  ahead : l.at < l.to;
  below : l.number < 10 ^ (l.to - l.at);
}

abbrev pub decreases-loop-to : goal.decreases-loop-to
decreases-loop-to l = l.end - l.to
