use Rattle.std.proofs.Common.{◌≡◌, ℕ, suc, ◌+◌, ◌-◌, ◌*◌, ◌<◌, ◌^◌, List, arith, sym, subst}
use Rattle.std.proofs.Math.Nat.{pow-suc}
use Rattle.std.proofs.lemmas.Fmt.{decimal_digit}
use Rattle.cert_reader.specs.inner.Text.{Stands}
use Rattle.cert_reader.proofs.Standing.{digit_more, more_fits}
use Rattle.cert_reader.proofs.numerals.short_digits.Goals as goal
use Rattle.cert_reader.proofs.numerals.short_digits.Goals.{In-Some}

pub loop-to-init : goal.loop-to-init
loop-to-init c =
    let one : c.args.at + 1 - c.args.at ≡ 1 = omega arith in
    record {
      some = c.requires.some;
      stands =
          subst (λ (s : List ℕ). Stands c.args.bytes.now c.args.at (c.args.at + 1) s)
          (sym (decimal_digit c.args.first c.requires.digit)) c.requires.here;
      within = omega (arith, c.requires.within);
      ahead = omega arith;
      below = subst (λ (k : ℕ). c.args.first < 10 ^ k) (sym one) c.requires.digit;
    }

-- with one digit more it fits 64 bits
fits : (c : In-Some) → 10 * c.loop-to.number + c.in-Some.digit < 2 ^ 64
fits c =
    more_fits c.loop-to.number c.in-Some.digit (c.loop-to.to - c.args.at) c.loop-to.invariant.below
    c.in-Some.ensures.digit (omega (arith, c.loop-to-test.true, c.min-end.ensures))

pub overflow_mul-number : goal.overflow_mul-number
overflow_mul-number c = omega (arith, fits (goal.at.overflow_mul-number c).In-Some)

pub overflow_add-number : goal.overflow_add-number
overflow_add-number c = omega (arith, fits (goal.at.overflow_add-number c).In-Some)

pub loop-to-preserved : goal.loop-to-preserved
loop-to-preserved c =
    let number : ℕ = c.loop-to.number in
    let k : ℕ = c.loop-to.to - c.args.at in
    let next : suc k ≡ c.loop-to.to + 1 - c.args.at = omega (arith, c.loop-to.invariant.ahead) in
    record {
      some = omega (arith, c.loop-to.invariant.some);
      stands =
          digit_more c.args.bytes.now c.args.at c.loop-to.to number c.in-Some.digit c.loop-to.invariant.some
          c.in-Some.ensures.digit
          (omega (arith, fits (goal.at.loop-to-preserved c).In-Some)) c.loop-to.invariant.stands
          c.in-Some.ensures.text;
      within = omega (arith, c.in-Some.ensures.within);
      ahead = omega (arith, c.loop-to.invariant.ahead);
      below =
          subst (λ (j : ℕ). 10 * number + c.in-Some.digit < 10 ^ j) next
          (omega (arith, c.loop-to.invariant.below, c.in-Some.ensures.digit, pow-suc 10 k));
    }
