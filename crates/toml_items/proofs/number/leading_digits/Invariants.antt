use Rattle.std.proofs.Common.{◌-◌, ◌≡◌, ◌<◌, ◌≤◌, ◌^◌, ◌++◌, true, drop, slice_index, decimal}
use Rattle.std.specs.Char.{is_ascii_digit}
use Rattle.toml_items.proofs.number.leading_digits.Given as goal

-- the digits so far are those of the number
abbrev pub invariant-loop-len : goal.invariant-loop-len
invariant-loop-len l = record {
  front : l.bytes ≡ decimal l.number ++ drop l.len l.bytes;
  above : 1 ≤ l.number;
  below : l.number < 10 ^ l.len;
  some : 0 < l.len;
  few : l.len ≤ 18;
  last : is_ascii_digit (slice_index l.bytes (l.len - 1)) ≡ true;
}

abbrev pub decreases-loop-len : goal.decreases-loop-len
decreases-loop-len l = l.end - l.len
