-- Quotients by a reciprocal.
use Rattle.std.proofs.Common.{◌≡◌, ℕ, ◌+◌, ◌-◌, ◌*◌, ◌/◌, ◌<◌, ◌≤◌, sym, arith, mul-le-mul_left, mul-le-mul_right, div-mul-le_self}
use Rattle.std.proofs.Math.Nat.{div-eq_of_lt-le, lt-div-mul-add, lt_of_mul-lt-mul_left}

-- between two multiples of the divisor
pub quotient_is : (n p q : ℕ) → q * p ≤ n → n < (q + 1) * p → q ≡ n / p
quotient_is n p q low high = sym (div-eq_of_lt-le {k = q} p {m = n} low high)

-- a whole less one, divided: the quotient falls short of the whole by less than the divisor
record IsReciprocal (whole p r : ℕ) : Type 0 where
  below : r * p + 1 ≤ whole
  near : whole ≤ r * p + p

reciprocal : (whole p : ℕ) → 1 ≤ whole → 1 ≤ p → IsReciprocal whole p ((whole - 1) / p)
reciprocal whole p some lp = record {
  below = omega (arith, div-mul-le_self (whole - 1) p);
  near = omega (arith, lt-div-mul-add {a = whole - 1} {b = p} (omega arith));
}

-- up to the reciprocal itself the next number's product gives the quotient
pub near_quotient : (whole p n : ℕ) → 1 ≤ whole → 1 ≤ p → n ≤ (whole - 1) / p
    → ((n + 1) * ((whole - 1) / p)) / whole ≡ n / p
near_quotient whole p n some lp small =
    let r : ℕ = (whole - 1) / p in
    let q : ℕ = n / p in
    let i : IsReciprocal whole p r = reciprocal whole p some lp in
    let low : q * p ≤ n = div-mul-le_self n p in
    let high : n + 1 ≤ (q + 1) * p = omega (arith, lt-div-mul-add {a = n} {b = p} (omega arith)) in
    div-eq_of_lt-le {k = q} whole {m = (n + 1) * r}
    (omega (arith, low, small, mul-le-mul_left q i.near, mul-le-mul_right r low))
    (omega (arith, mul-le-mul_right r high, mul-le-mul_left (q + 1) i.below))

-- below the whole a number's own product gives the quotient or one less
pub record IsGuess (n p guess : ℕ) : Type 0 where
  pub below : guess * p ≤ n
  pub near : n < (guess + 2) * p

pub guessed : (whole p n : ℕ) → 1 ≤ p → n < whole → IsGuess n p ((n * ((whole - 1) / p)) / whole)
guessed whole p n lp small =
    let r : ℕ = (whole - 1) / p in
    let guess : ℕ = (n * r) / whole in
    let i : IsReciprocal whole p r = reciprocal whole p (omega arith) lp in
    let low : guess * whole ≤ n * r = div-mul-le_self (n * r) whole in
    let high : n * r < guess * whole + whole = lt-div-mul-add {a = n * r} {b = whole} (omega arith) in
    let within : guess * p < n + 1
    = lt_of_mul-lt-mul_left whole {m = guess * p} {n = n + 1}
    (omega (arith, mul-le-mul_right p low, mul-le-mul_left n i.below, small)) in
    record {
      below = omega arith;
      near =
          lt_of_mul-lt-mul_left whole {m = n} {n = (guess + 2) * p}
          (omega (arith, mul-lt p high, mul-le-mul_left n i.near, mul-le-mul_right p small));
    }
  where
    mul-lt : {a b : ℕ} (k : ℕ) → a < b → a * k + k ≤ b * k
    mul-lt {a} {b} k l = omega (arith, mul-le-mul_right k l)
