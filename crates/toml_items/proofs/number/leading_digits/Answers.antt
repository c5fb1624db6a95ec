use Rattle.std.proofs.Common.{◌≡◌, ℕ, ◌+◌, ◌-◌, ◌*◌, ◌<◌, ◌≤◌, ◌^◌, slice_index, true, sym, ap, ◌∙◌, arith, add-one}
use Rattle.std.specs.Char.{is_ascii_digit}
use Rattle.std.proofs.lemmas.Bool.Decides.{nat_tests}
use Rattle.std.proofs.Math.Nat.{pow-suc}
use Rattle.toml_items.proofs.Numbers.{digit_first, digit_more, few_below}
use Rattle.toml_items.proofs.number.leading_digits.Goals as goal

pub loop-len-init : goal.loop-len-init
loop-len-init c =
    let digit : ℕ = c.from-number.result in
    let here : slice_index c.args.bytes.now 0 ≡ 48 + digit = omega (arith, c.from-number.ensures, c.requires.least) in
    record {
      front = digit_first c.args.bytes.now digit (omega (arith, here, c.requires.most)) here;
      above = omega (arith, here, c.requires.least);
      below = omega (arith, here, c.requires.most);
      some = omega arith;
      few = omega arith;
      last = grind (arith, nat_tests);
    }

pub overflow_mul-number : goal.overflow_mul-number
overflow_mul-number c =
    omega (arith, few_below c.loop-len.number c.loop-len.len c.loop-len.invariant.below c.loop-len.invariant.few)

pub overflow_add-number : goal.overflow_add-number
overflow_add-number c =
    omega (
      arith,
      few_below c.loop-len.number c.loop-len.len c.loop-len.invariant.below c.loop-len.invariant.few,
      c.from.ensures,
      c.from.type_inv,
    )

pub loop-len-preserved : goal.loop-len-preserved
loop-len-preserved c =
    let number : ℕ = c.loop-len.number in
    let len : ℕ = c.loop-len.len in
    let digit : ℕ = c.from.result in
    let yes : is_ascii_digit (slice_index c.args.bytes.now len) ≡ true
    = sym c.is_ascii_digit.ensures.value ∙ c.if-is_ascii_digit.true in
    let least : 48 ≤ slice_index c.args.bytes.now len = grind (arith, nat_tests) in
    let most : slice_index c.args.bytes.now len ≤ 57 = grind (arith, nat_tests) in
    let here : slice_index c.args.bytes.now len ≡ 48 + digit = omega (arith, c.from.ensures, least) in
    let small : digit < 10 = omega (arith, here, most) in
    let fits : 10 * number + digit < 2 ^ 64
    = omega (arith, few_below number len c.loop-len.invariant.below c.loop-len.invariant.few, small) in
    let back : len + 1 - 1 ≡ len = omega arith in
    record {
      front =
          digit_more c.args.bytes.now len number digit c.loop-len.invariant.above small fits
          (omega (arith, c.loop-len-test.true, c.min-end.ensures)) here c.loop-len.invariant.front;
      above = omega (arith, c.loop-len.invariant.above);
      below =
          omega (
            arith,
            c.loop-len.invariant.below,
            small,
            pow-suc 10 len,
            ap (λ (k : ℕ). 10 ^ k) (add-one len),
          );
      some = omega arith;
      few = omega (arith, c.loop-len-test.true, c.min-end.ensures);
      last = ap (λ (k : ℕ). is_ascii_digit (slice_index c.args.bytes.now k)) back ∙ yes;
    }

pub returns-else-is_ascii_digit-clause-small : goal.returns-else-is_ascii_digit-clause-small
returns-else-is_ascii_digit-clause-small c =
    few_below c.loop-len.number c.loop-len.len c.loop-len.invariant.below c.loop-len.invariant.few

pub returns-after-loop-len-clause-small : goal.returns-after-loop-len-clause-small
returns-after-loop-len-clause-small c =
    few_below c.loop-len.number c.loop-len.len c.loop-len.invariant.below c.loop-len.invariant.few
