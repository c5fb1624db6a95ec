use Rattle.std.proofs.Common.{arith}
use Rattle.csv_rows.proofs.decimal.front_of_long.Goals as goal

pub returns : goal.returns
returns c = record {
  within = omega (arith, c.requires);
  are_digits = c.are_digits_first.ensures c.if-not-are_digits_first.false;
  so_far = c.eight_digits.ensures.value;
  few = omega (arith, c.eight_digits.ensures.few);
}
