use Rattle.std.proofs.Common.{◌≡◌, ℕ, suc, ◌*◌, ◌-◌, ◌%◌, ◌^◌, ◌<◌, inl, inr, sym, ap, ◌∙◌, arith, bit_and, pow_mono, pow_pos}
use Rattle.std.proofs.Math.Nat.{two-pow-succ}
use Rattle.std.proofs.lemmas.Bool.{cases_lt}
use Rattle.std.proofs.lemmas.Nat.Bits.{bit_at_and, bit_at_ones, bit_at_ones_above}
use Rattle.std.specs.Int.{bit_at}
use Rattle.csv_rows.proofs.near.before.Goals as goal

-- a mark moved to a place
moved : (place : ℕ) → place < 64 → 1 * 2 ^ place % 2 ^ 64 ≡ 2 ^ place
moved place l =
    let small : 2 ^ place < 2 ^ 64
    = omega (arith, two-pow-succ place, pow_pos place, pow_mono {i = suc place} {j = 64} (omega arith)) in
    omega arith

pub overflow_sub-result : goal.overflow_sub-result
overflow_sub-result c = omega (arith, moved c.args.place c.requires, pow_pos c.args.place)

pub returns : goal.returns
returns c =
    let m = c.args.marks in
    let n = c.args.place in
    let same = λ (k : ℕ). ap (λ x. bit_at (bit_and m (x - 1)) k) (moved n c.requires) in
    record {
      kept = λ k l. same k ∙ omega (arith, bit_at_and m (2 ^ n - 1) k, bit_at_ones n k l);
      no_more =
          λ k set.
          let both = bit_at_and m (2 ^ n - 1) k in
          let one = sym (same k) ∙ set in
          elim (cases_lt k n) [
            | inl l ↦ (l, omega (arith, both, one, bit_at_ones n k l))
            | inr ge ↦ absurd (omega (arith, both, one, bit_at_ones_above n k ge))
          ];
    }
