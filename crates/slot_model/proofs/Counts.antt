-- Counts of the numbers below a bound that pass a test: of two tests that agree, and of one that
-- answers alike over a stretch.
use Rattle.std.proofs.Common.{◌≡◌, ℕ, zero, suc, ◌+◌, ◌<◌, ◌≤◌, ◌&&◌, Bool, true, false, cond, leb, ap, arith, add-suc, add-zero}
use Rattle.std.proofs.lemmas.Bool.{and_left, lt-leb}
use Rattle.slot_model.specs.Slots.{count_below}
use Rattle.slot_model.proofs.Sums.{cond-none, cond_suc, sum_below-zero, sum_below-suc, sum_below-same}

pub count_same : (p q : ℕ → Bool) (n : ℕ) → ((k : ℕ) → k < n → p k ≡ q k) → count_below p n ≡ count_below q n
count_same p q n h =
    sum_below-same (λ k. cond (p k) 1 0) (λ k. cond (q k) 1 0) n (λ k l. ap (λ (b : Bool). cond {A = ℕ} b 1 0) (h k l))

pub count_stretch : (p : ℕ → Bool) (v : Bool) (a k : ℕ) → ((x : ℕ) → a ≤ x → x < a + k → p x ≡ v)
    → count_below p (a + k) ≡ count_below p a + cond v k 0
count_stretch p v a zero h = omega (arith, cond-none v, ap (count_below p) (add-zero a))
count_stretch p v a (suc k) h =
    omega (
      arith,
      ap (count_below p) (add-suc a k),
      sum_below-suc (λ x. cond {A = ℕ} (p x) 1 0) (a + k),
      ap (λ (b : Bool). cond {A = ℕ} b 1 0) (h (a + k) (omega arith) (omega arith)),
      cond_suc v k,
      count_stretch p v a k (λ x l m. h x l (omega arith)),
    )

-- where all pass
pub count_all : (p : ℕ → Bool) (n : ℕ) → ((k : ℕ) → k < n → p k ≡ true) → count_below p n ≡ n
count_all p n h =
    let e : 0 + n ≡ n = omega arith in
    omega (
      arith,
      ap (count_below p) e,
      count_stretch p true 0 n (λ k _ l. h k (omega arith)),
      sum_below-zero (λ k. cond {A = ℕ} (p k) 1 0),
    )

-- and where those alone may pass that are not below a
pub count_before : (p : ℕ → Bool) (a n : ℕ) → n ≤ a → count_below (λ x. leb a x && p x) n ≡ 0
count_before p a n l =
    let e : 0 + n ≡ n = omega arith in
    omega (
      arith,
      ap (count_below (λ x. leb a x && p x)) e,
      count_stretch (λ x. leb a x && p x) false 0 n
          (λ x _ m. and_left (leb a x) (p x) (lt-leb a x (omega arith))),
      sum_below-zero (λ x. cond {A = ℕ} (leb a x && p x) 1 0),
    )
