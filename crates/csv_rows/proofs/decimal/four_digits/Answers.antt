use Rattle.std.proofs.Common.{◌+◌, arith}
use Rattle.csv_rows.proofs.Numbers.{digit_there, four_more}
use Rattle.csv_rows.proofs.decimal.four_digits.Goals as goal

pub digit_at-thousands-requires-clause-is_digit : goal.digit_at-thousands-requires-clause-is_digit
digit_at-thousands-requires-clause-is_digit c =
    digit_there c.args.field.now (c.args.from + 4) c.args.from c.requires.within (omega arith) c.requires.digits

pub digit_at-hundreds-requires-clause-is_digit : goal.digit_at-hundreds-requires-clause-is_digit
digit_at-hundreds-requires-clause-is_digit c =
    digit_there c.args.field.now (c.args.from + 4) (c.args.from + 1) c.requires.within (omega arith) c.requires.digits

pub digit_at-tens-requires-clause-is_digit : goal.digit_at-tens-requires-clause-is_digit
digit_at-tens-requires-clause-is_digit c =
    digit_there c.args.field.now (c.args.from + 4) (c.args.from + 2) c.requires.within (omega arith) c.requires.digits

pub digit_at-ones-requires-clause-is_digit : goal.digit_at-ones-requires-clause-is_digit
digit_at-ones-requires-clause-is_digit c =
    digit_there c.args.field.now (c.args.from + 4) (c.args.from + 3) c.requires.within (omega arith) c.requires.digits

pub returns-clause-value : goal.returns-clause-value
returns-clause-value c n =
    four_more c.args.field.now n c.args.from _ c.requires.within
    (omega (
      arith,
      c.digit_at-thousands.ensures.value,
      c.digit_at-hundreds.ensures.value,
      c.digit_at-tens.ensures.value,
      c.digit_at-ones.ensures.value,
    ))
