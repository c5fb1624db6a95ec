-- Sums whose terms come again in blocks of equal length, and a rest.
use Rattle.std.proofs.Common.{◌≡◌, ℕ, zero, suc, ◌+◌, ◌*◌, ◌<◌, arith, ap}
use Rattle.std.proofs.Math.Nat.{mul-suc, suc-mul}
use Rattle.slot_model.specs.Slots.{sum_below}
use Rattle.slot_model.proofs.Sums.{sum_below-zero, sum_below-suc, sum_below-same}

sum_below-append : (f : ℕ → ℕ) (a b : ℕ) → sum_below f (a + b) ≡ sum_below f a + sum_below (λ i. f (a + i)) b
sum_below-append f a zero =
    omega (arith, sum_below-zero (λ i. f (a + i)), ap (sum_below f) (let e : a + 0 ≡ a = omega arith in e))
sum_below-append f a (suc b) =
    omega (
      arith,
      sum_below-append f a b,
      sum_below-suc f (a + b),
      sum_below-suc (λ i. f (a + i)) b,
      ap (sum_below f) (let e : a + suc b ≡ suc (a + b) = omega arith in e),
    )

repeated : (f g : ℕ → ℕ) (w k : ℕ) → ((c i : ℕ) → c < k → i < w → f (w * c + i) ≡ g i)
    → sum_below f (w * k) ≡ k * sum_below g w
repeated f g w zero same = omega (arith, sum_below-zero f, ap (sum_below f) (let e : w * 0 ≡ 0 = omega arith in e))
repeated f g w (suc k) same =
    omega (
      arith,
      ap (sum_below f) (mul-suc w k),
      sum_below-append f (w * k) w,
      repeated f g w k (λ c i l. same c i (omega arith)),
      sum_below-same (λ i. f (w * k + i)) g w (λ i l. same k i (omega arith) l),
      suc-mul k (sum_below g w),
    )

pub in_blocks : (f g h : ℕ → ℕ) (w k r : ℕ) → ((c i : ℕ) → c < k → i < w → f (w * c + i) ≡ g i)
    → ((i : ℕ) → i < r → f (w * k + i) ≡ h i) → sum_below f (w * k + r) ≡ k * sum_below g w + sum_below h r
in_blocks f g h w k r same rest =
    omega (arith, sum_below-append f (w * k) r, repeated f g w k same, sum_below-same (λ i. f (w * k + i)) h r rest)
