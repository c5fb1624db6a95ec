use Rattle.std.proofs.Common.{◌∙◌, ℕ, ◌+◌, ◌*◌, ◌<◌, List, get_or, ap, arith}
use Rattle.csv_rows.specs.inner.Digits.{pair_at}
use Rattle.csv_rows.proofs.Numbers.{four_more}
use Rattle.csv_rows.proofs.Pairs.{digit_between}
use Rattle.csv_rows.proofs.decimal.eight_digits.Goals as goal

pub returns-clause-value : goal.returns-clause-value
returns-clause-value c =
    let field = c.args.field.now in
    let pair = λ (k : ℕ). ap (λ (z : List ℕ). get_or z k 0) c.pairs_of.ensures in
    let high : ℕ = 100 * pair_at field 0 + pair_at field 2 in
    four_more field 0 0 high (omega (arith, c.requires.within)) (omega arith)
    ∙ four_more field high 4 _ (omega (arith, c.requires.within))
    (omega (
      arith,
      c.from.ensures,
      c.from-2.ensures,
      c.from-3.ensures,
      c.from-4.ensures,
      pair 0,
      pair 1,
      pair 2,
      pair 3,
    ))

pub returns-clause-few : goal.returns-clause-few
returns-clause-few c =
    let field = c.args.field.now in
    let pair = λ (k : ℕ). ap (λ (z : List ℕ). get_or z k 0) c.pairs_of.ensures in
    let range = λ (k : ℕ) (less : k < 8). digit_between field k c.requires.within less c.requires.digits in
    omega (
      arith,
      c.from.ensures,
      c.from-2.ensures,
      c.from-3.ensures,
      c.from-4.ensures,
      pair 0,
      pair 1,
      pair 2,
      pair 3,
      range 0 (omega arith),
      range 1 (omega arith),
      range 2 (omega arith),
      range 3 (omega arith),
      range 4 (omega arith),
      range 5 (omega arith),
      range 6 (omega arith),
      range 7 (omega arith),
    )
