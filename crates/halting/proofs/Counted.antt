-- Counts of moments by two tests, and the entries of a list of moments.
use Rattle.std.proofs.Common.{◌≡◌, ℕ, zero, suc, ◌+◌, ◌-◌, ◌<◌, ◌≤◌, Bool, true, false, not, cond, ◌&&◌, ◌||◌, leb, length, get_or, refl, ap, arith, inl, inr, le-leb}
use Rattle.std.proofs.lemmas.Bool.{cases_lt, cases_Bool, cond-true, and_from}
use Rattle.std.proofs.lemmas.List.FromFn.{length-map-range_with_len, get_or-map-range_with_len}
use Rattle.slot_model.specs.Slots.{slots_between}
use Rattle.slot_model.proofs.Sums.{get-le-sum_below}
use Rattle.trace_file.specs.Periods.{count_between}
use Rattle.trace_file.proofs.Counting.{between_more, between_none}
use Rattle.halting.specs.Stolen.{moments_from}

-- one moment more
next : (p : ℕ → Bool) (a c : ℕ) → a ≤ c → count_between p a (suc c) ≡ count_between p a c + cond (p c) 1 0
next p a c l =
    omega (arith, between_more p a c, ap (λ (b : Bool). cond {A = ℕ} (b && p c) 1 0) (le-leb a c l))

one_of : (b d : Bool) → d ≡ not b → cond {A = ℕ} b 1 0 + cond {A = ℕ} d 1 0 ≡ 1
one_of true d e = omega (arith, ap (λ (v : Bool). cond {A = ℕ} v 1 0) e)
one_of false d e = omega (arith, ap (λ (v : Bool). cond {A = ℕ} v 1 0) e)

-- each moment passes a test or does not
pub complement : (p q : ℕ → Bool) (a c : ℕ) → ((x : ℕ) → q x ≡ not (p x))
    → count_between p a c + count_between q a c ≡ c - a
complement p q a zero h = omega (arith, between_none p a 0 (omega arith), between_none q a 0 (omega arith))
complement p q a (suc c) h = elim (cases_lt c a) [
  | inl l ↦ omega (arith, between_none p a (suc c) (omega arith), between_none q a (suc c) (omega arith))
  | inr l ↦ omega (arith, complement p q a c h, next p a c l, next q a c l, one_of (p c) (q c) (h c))
]

both_of : (b d : Bool) → (d ≡ true → b ≡ false)
    → cond {A = ℕ} (b || d) 1 0 ≡ cond {A = ℕ} b 1 0 + cond {A = ℕ} d 1 0
both_of true true h = absurd (let no : true ≡ false = h refl in cc)
both_of true false h = refl
both_of false true h = refl
both_of false false h = refl

-- where none passes two tests, those that pass either are counted by both
pub disjoint : (p q : ℕ → Bool) (a c : ℕ) → ((x : ℕ) → a ≤ x → x < c → q x ≡ true → p x ≡ false)
    → count_between (λ x. p x || q x) a c ≡ count_between p a c + count_between q a c
disjoint p q a zero h =
    omega (
      arith,
      between_none (λ x. p x || q x) a 0 (omega arith),
      between_none p a 0 (omega arith),
      between_none q a 0 (omega arith),
    )
disjoint p q a (suc c) h = elim (cases_lt c a) [
  | inl l ↦
      omega (
        arith,
        between_none (λ x. p x || q x) a (suc c) (omega arith),
        between_none p a (suc c) (omega arith),
        between_none q a (suc c) (omega arith),
      )
  | inr l ↦
      omega (
        arith,
        disjoint p q a c (λ x i j. h x i (omega arith)),
        next (λ x. p x || q x) a c l,
        next p a c l,
        next q a c l,
        both_of (p c) (q c) (h c l (omega arith)),
      )
]

-- a test that none passes
pub none_passes : (p : ℕ → Bool) (a c x : ℕ) → count_between p a c ≡ 0 → a ≤ x → x < c → p x ≡ false
none_passes p a c x none lo hi = elim (cases_Bool (p x)) [
  | inr e ↦ e
  | inl e ↦
      absurd (omega (
        arith,
        none,
        get-le-sum_below (λ y. cond {A = ℕ} (leb a y && p y) 1 0) x c hi,
        cond-true {A = ℕ} (leb a x && p x) 1 0 (and_from (leb a x) (p x) (le-leb a x lo) e),
      ))
]

-- what a list of moments has
pub moments_long : (passes : ℕ → Bool) (f n : ℕ) → length (moments_from passes f n) ≡ n - f
moments_long passes f n = length-map-range_with_len passes f (n - f)

pub moment_at : (passes : ℕ → Bool) (f n x : ℕ) → f + x < n
    → get_or (moments_from passes f n) x false ≡ passes (f + x)
moment_at passes f n x l = get_or-map-range_with_len passes f (n - f) x (f + x) false (omega (arith, l)) (omega arith)

pub slots_are : (passes : ℕ → Bool) (f n a b : ℕ) → f + b ≤ n
    → slots_between (moments_from passes f n) a b ≡ count_between passes (f + a) (f + b)
slots_are passes f n a zero l =
    omega (
      arith,
      between_none (λ x. get_or (moments_from passes f n) x false) a 0 (omega arith),
      between_none passes (f + a) (f + 0) (omega arith),
    )
slots_are passes f n a (suc b) l =
    let has : ℕ → Bool = λ x. get_or (moments_from passes f n) x false in
    let e : f + suc b ≡ suc (f + b) = omega arith in
    elim (cases_lt b a) [
      | inl m ↦
          omega (
            arith,
            between_none has a (suc b) (omega arith),
            between_none passes (f + a) (f + suc b) (omega arith),
          )
      | inr m ↦
          omega (
            arith,
            slots_are passes f n a b (omega arith),
            next has a b m,
            next passes (f + a) (f + b) (omega arith),
            ap (count_between passes (f + a)) e,
            ap (λ (v : Bool). cond {A = ℕ} v 1 0) (moment_at passes f n b (omega arith)),
          )
    ]
