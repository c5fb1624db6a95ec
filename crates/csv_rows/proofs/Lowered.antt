-- The bits of a number without its lowest 1.
use Rattle.std.proofs.Common.{◌≡◌, ◌∙◌, ℕ, zero, suc, ◌-◌, ◌/◌, ◌<◌, inl, inr, sym, ap, arith, bit_and}
use Rattle.std.proofs.lemmas.Bool.{cases_lt}
use Rattle.std.proofs.lemmas.Nat.Bits.{bit_at-suc, bit_at-zero, bit_at_and, bit_at_lowest}
use Rattle.std.specs.Int.{bit_at}
use Rattle.csv_rows.specs.inner.Near.{IsFirstMark, IsWithout}

-- one less has ones below the lowest 1, none there, and the same bits above
record IsLowered (m p : ℕ) : Type 0 where
  below : (k : ℕ) → k < p → bit_at (m - 1) k ≡ 1
  here : bit_at (m - 1) p ≡ 0
  above : (k : ℕ) → p < k → bit_at (m - 1) k ≡ bit_at m k

some : (m k : ℕ) → bit_at m k ≡ 1 → 0 < m
some zero k set = absurd (omega (arith, set, bit_at-zero k))
some (suc m) k set = omega arith

-- of an odd number
module _ (m : ℕ) (odd : bit_at m 0 ≡ 1) where
  same_half : (m - 1) / 2 ≡ m / 2
  same_half = omega (arith, odd, bit_at_lowest m)

  odd_above : (k : ℕ) → 0 < k → bit_at (m - 1) k ≡ bit_at m k
  odd_above zero l = absurd (omega arith)
  odd_above (suc k) l = bit_at-suc (m - 1) k ∙ ap (λ n. bit_at n k) same_half ∙ sym (bit_at-suc m k)

-- of an even number
module _ (m p : ℕ) (even : bit_at m 0 ≡ 0) (more : 0 < m) (half : IsLowered (m / 2) p) where
  less_half : (m - 1) / 2 ≡ m / 2 - 1
  less_half = omega (arith, even, bit_at_lowest m, more)

  halved : (k : ℕ) → bit_at (m - 1) (suc k) ≡ bit_at (m / 2 - 1) k
  halved k = bit_at-suc (m - 1) k ∙ ap (λ n. bit_at n k) less_half

  even_below : (k : ℕ) → k < suc p → bit_at (m - 1) k ≡ 1
  even_below zero l = omega (arith, even, bit_at_lowest m, bit_at_lowest (m - 1), more)
  even_below (suc k) l = halved k ∙ half.below k (omega arith)

  even_above : (k : ℕ) → suc p < k → bit_at (m - 1) k ≡ bit_at m k
  even_above zero l = absurd (omega arith)
  even_above (suc k) l = halved k ∙ half.above k (omega arith) ∙ sym (bit_at-suc m k)

lowered : (p m : ℕ) → bit_at m p ≡ 1 → ((k : ℕ) → k < p → bit_at m k ≡ 0) → IsLowered m p
lowered zero m set none = record {
  below = λ k l. absurd (omega arith);
  here = omega (arith, set, bit_at_lowest m, bit_at_lowest (m - 1));
  above = odd_above m set;
}
lowered (suc p) m set none =
    let even = none 0 (omega arith) in
    let more = some m (suc p) set in
    let half =
    lowered p (m / 2) (sym (bit_at-suc m p) ∙ set)
    (λ k l. sym (bit_at-suc m k) ∙ none (suc k) (omega arith)) in
    record {
      below = even_below m p even more half;
      here = halved m p even more half p ∙ half.here;
      above = even_above m p even more half;
    }

-- the first mark goes where the marks meet one less
pub without_first : (m p : ℕ) → IsFirstMark m p → IsWithout m p (bit_and m (m - 1))
without_first m p first =
    let low = lowered p m first.set first.below in
    let both = bit_at_and m (m - 1) in
    record {
      kept =
          λ k fits apart. elim (cases_lt k p) [
            | inl l ↦ omega (arith, both k, first.below k l)
            | inr ge ↦ omega (arith, both k, low.above k (omega (arith, ge, apart)))
          ];
      gone = omega (arith, both p, low.here);
      no_more = λ k set. omega (arith, both k, set);
    }
