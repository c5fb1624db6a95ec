use Rattle.std.proofs.Common.{arith}
use Rattle.cert_reader.proofs.Standing.{digit_more}
use Rattle.cert_reader.proofs.numerals.more_digits.Goals as goal

pub loop-digit-init : goal.loop-digit-init
loop-digit-init c =
    record {
      some = c.short_digits-short.ensures.some;
      stands = c.short_digits-short.ensures.text;
      within = c.short_digits-short.ensures.within;
    }

pub loop-digit-preserved : goal.loop-digit-preserved
loop-digit-preserved c = record {
  some = omega (arith, c.loop-digit.invariant.some);
  stands =
      digit_more c.args.bytes.now c.args.at c.loop-digit.to c.loop-digit.number c.in-Some.digit
      c.loop-digit.invariant.some c.in-Some.ensures.digit
      (omega (arith, c.if-number-gt-MOST.false, c.in-Some.ensures.digit)) c.loop-digit.invariant.stands
      c.in-Some.ensures.text;
  within = omega (arith, c.in-Some.ensures.within);
}
