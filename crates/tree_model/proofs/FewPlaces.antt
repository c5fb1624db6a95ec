-- What is said of each place, where there are one, two or three.
use Rattle.std.proofs.Common.{ℕ, zero, suc, ◌<◌, arith}

pub only : (P : ℕ → Type 0) → P 0 → (x : ℕ) → x < 1 → P x
only P p zero h = p
only P p (suc x) h = absurd (omega arith)

pub both : (P : ℕ → Type 0) → P 0 → P 1 → (x : ℕ) → x < 2 → P x
both P p q zero h = p
both P p q (suc zero) h = q
both P p q (suc (suc x)) h = absurd (omega arith)

pub each_of_three : (P : ℕ → Type 0) → P 0 → P 1 → P 2 → (x : ℕ) → x < 3 → P x
each_of_three P p q r zero h = p
each_of_three P p q r (suc zero) h = q
each_of_three P p q r (suc (suc zero)) h = r
each_of_three P p q r (suc (suc (suc x))) h = absurd (omega arith)
