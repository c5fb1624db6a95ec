use Rattle.std.proofs.Common.{◌<◌, arith, length}
use Rattle.csv_rows.proofs.Numbers.{few_digits}
use Rattle.csv_rows.proofs.decimal.short_number.Goals as goal
use Rattle.csv_rows.proofs.decimal.short_number.Goals.{Else-not-is_ascii_digit}

-- the number of the digits before one more
few : (c : Else-not-is_ascii_digit) → c.loop-i.n < 1000000000000000
few c =
    few_digits c.loop-i.n c.loop-i.i (length c.args.field.now) (omega arith)
    (c.begins_short.ensures c.if-not-begins_short.false).0 (omega (arith, c.loop-i.invariant.few))

pub overflow_mul-n : goal.overflow_mul-n
overflow_mul-n c = omega (arith, few (goal.at.overflow_mul-n c).Else-not-is_ascii_digit)

pub overflow_add-n : goal.overflow_add-n
overflow_add-n c =
    omega (
      arith,
      few (goal.at.overflow_add-n c).Else-not-is_ascii_digit,
      c.from.ensures,
      c.type_inv.field c.loop-i.i,
    )
