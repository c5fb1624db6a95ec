use Rattle.std.proofs.Common.{◌≡◌, ◌<◌, ◌^◌, true, drop, take}
use Rattle.std.specs.Char.{is_ascii_digit}
use Rattle.std.specs.List.{list_all}
use Rattle.csv_rows.specs.Decimal.{digits_after, number}
use Rattle.csv_rows.proofs.decimal.short_number.Given as goal

-- the number of the digits so far, which are few, and the digits to come
abbrev pub invariant-loop-i : goal.invariant-loop-i
invariant-loop-i l = record {
  so_far : number l.field ≡ digits_after l.n (drop l.i l.field);
  digits : list_all is_ascii_digit (take l.i l.field) ≡ true;
  few : l.n < 10 ^ l.i;
}
