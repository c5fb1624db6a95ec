-- What is gathered of places at moments: where each entry stands and comes from, that they stand
-- by moment and then by place, how many they are, and sums over them.
use Rattle.std.proofs.Common.{◌≡◌, ◌⊎◌, ℕ, zero, suc, ◌+◌, ◌*◌, ◌<◌, ◌≤◌, Bool, true, cond, List, length, get_or, sum_by, refl, sym, ◌∙◌, ap, arith, subst, inl, inr}
use Rattle.std.proofs.lemmas.Bool.{cases_eq, cases_lt, cases_Bool, cond-true, cond-false}
use Rattle.slot_model.specs.Slots.{sum_below, count_below, gathered_at, gathered}
use Rattle.slot_model.proofs.Places.{length-push_if, push_if-kept, push_if-last, push_if-same, sum_by-push_if}
use Rattle.slot_model.proofs.Sums.{sum_below-zero, sum_below-suc, sum_below-swap}
use Rattle.slot_model.proofs.Runs.{count_below-le}

-- a list that begins with another
record Extends {X : Type 0} (d : X) (xs ys : List X) : Type 0 where
  longer : length xs ≤ length ys
  same : (k : ℕ) → k < length xs → get_or ys k d ≡ get_or xs k d

-- what each step extends is extended by many
extends_far : {X : Type 0} (d : X) (f : ℕ → List X) → ((t : ℕ) → Extends d (f t) (f (suc t))) → (a b : ℕ) → a ≤ b
    → Extends d (f a) (f b)
extends_far d f step a zero l =
    subst (λ z. Extends d (f a) (f z)) (let e : a ≡ 0 = omega arith in e)
    (record { longer = omega arith; same = λ k m. refl })
extends_far d f step a (suc b) l = elim (cases_eq a (suc b)) [
  | inl e ↦ subst (λ z. Extends d (f a) (f z)) e (record { longer = omega arith; same = λ k m. refl })
  | inr ne ↦
      let h : Extends d (f a) (f b) = extends_far d f step a b (omega arith) in
      record {
        longer = omega (arith, h.longer, (step b).longer);
        same = λ k m. (step b).same k (omega (arith, h.longer)) ∙ h.same k m;
      }
]

-- by moment and then by place
abbrev pub Sooner : ℕ → ℕ → ℕ → ℕ → Type 0
Sooner x i y j = (x < y) ⊎ ((x ≡ y) × (i < j))

module _ {X : Type 0} (there : ℕ → ℕ → Bool) (what : ℕ → ℕ → X) (n : ℕ) (d : X) where
  abbrev all : ℕ → List X
  all t = gathered there what n t

  abbrev row : ℕ → ℕ → List X
  row x i = gathered_at there what x i (all x)

  -- where the entry of place i at moment x stands
  abbrev pub stand : ℕ → ℕ → ℕ
  stand x i = length (row x i)

  pub next_stand : (x i : ℕ) → stand x (suc i) ≡ stand x i + cond (there x i) 1 0
  next_stand x i = length-push_if (row x i) (there x i) (what x i)

  row_far : (x i m : ℕ) → i ≤ m → Extends d (row x i) (row x m)
  row_far x i m l =
      extends_far d (row x) (λ k. record {
        longer = omega (arith, next_stand x k);
        same = λ j. push_if-kept (row x k) (there x k) (what x k) d j;
      }) i m l

  all_far : (y t : ℕ) → y ≤ t → Extends d (all y) (all t)
  all_far y t l = extends_far d all (λ x. row_far x 0 n (omega arith)) y t l

  pub stand_row : (x i m : ℕ) → i ≤ m → stand x i ≤ stand x m
  stand_row x i m l = (row_far x i m l).longer

  -- the entries of earlier moments come first, and stay
  pub gathered_longer : (y t : ℕ) → y ≤ t → length (all y) ≤ length (all t)
  gathered_longer y t l = (all_far y t l).longer

  pub gathered_stays : (y t k : ℕ) → y ≤ t → k < length (all y) → get_or (all t) k d ≡ get_or (all y) k d
  gathered_stays y t k l m = (all_far y t l).same k m

  stand_past : (x i y j : ℕ) → x < y → i ≤ n → stand x i ≤ stand y j
  stand_past x i y j l m =
      let next : stand x n ≡ length (all (suc x)) = refl in
      omega (
        arith,
        stand_row x i n m,
        next,
        gathered_longer (suc x) y l,
        stand_row y 0 j (omega arith),
      )

  -- an entry that is there stands behind all that come sooner
  pub stand_there : (x i : ℕ) → there x i ≡ true → stand x (suc i) ≡ suc (stand x i)
  stand_there x i e = omega (arith, next_stand x i, cond-true {A = ℕ} (there x i) 1 0 e)

  pub stands_within : (x t i : ℕ) → x < t → i < n → there x i ≡ true → stand x i < length (all t)
  stands_within x t i l m e =
      omega (
        arith,
        stand_there x i e,
        stand_row x (suc i) n m,
        gathered_longer (suc x) t l,
      )

  pub stands_there : (x t i : ℕ) → x < t → i < n → there x i ≡ true → get_or (all t) (stand x i) d ≡ what x i
  stands_there x t i l m e =
      gathered_stays (suc x) t (stand x i) l (omega (arith, stand_there x i e, stand_row x (suc i) n m))
      ∙ ((row_far x (suc i) n m).same (stand x i) (omega (arith, stand_there x i e))
      ∙ push_if-last (row x i) (there x i) (what x i) d (stand x i) e refl)

  -- where the entry at k comes from
  pub record Source (t k : ℕ) : Type 0 where
    pub x : ℕ
    pub i : ℕ
    pub before : x < t
    pub inside : i < n
    pub now : there x i ≡ true
    pub at : stand x i ≡ k

  row_source : (x i k : ℕ) → k < stand x i
      → (k < length (all x)) ⊎ ((j : ℕ) × (j < i) × (there x j ≡ true) × (stand x j ≡ k))
  row_source x zero k l = inl l
  row_source x (suc i) k l = elim (cases_lt k (stand x i)) [
    | inl sooner ↦ elim (row_source x i k sooner) [
      | inl m ↦ inl m
      | inr s ↦ inr (s.0, omega (arith, s.1), s.2, s.3)
    ]
    | inr last ↦ elim (cases_Bool (there x i)) [
      | inl e ↦ inr (i, omega arith, e, omega (arith, l, last, stand_there x i e))
      | inr e ↦ absurd (omega (arith, l, last, next_stand x i, cond-false {A = ℕ} (there x i) 1 0 e))
    ]
  ]

  pub source : (t k : ℕ) → k < length (all t) → Source t k
  source zero k l = absurd (omega arith)
  source (suc t) k l = elim (row_source t n k l) [
    | inl m ↦
        let s : Source t k = source t k m in
        record { x = s.x; i = s.i; before = omega (arith, s.before); inside = s.inside; now = s.now; at = s.at }
    | inr s ↦ record { x = t; i = s.0; before = omega arith; inside = s.1; now = s.2; at = s.3 }
  ]

  pub source_is : (t k : ℕ) → (s : Source t k) → get_or (all t) k d ≡ what s.x s.i
  source_is t k s =
      ap (λ (z : ℕ). get_or (all t) z d) (sym s.at) ∙ stands_there s.x t s.i s.before s.inside s.now

  -- they stand by moment and then by place
  pub sources_in_turn : (t k l : ℕ) → k < l → (a : Source t k) → (b : Source t l) → Sooner a.x a.i b.x b.i
  sources_in_turn t k l lt a b = elim (cases_lt a.x b.x) [
    | inl before ↦ inl before
    | inr m ↦ elim (cases_eq a.x b.x) [
      | inr ne ↦
          absurd (omega (
            arith,
            a.at,
            b.at,
            stand_past b.x b.i a.x a.i (omega (arith, m, ne)) (omega (arith, b.inside)),
          ))
      | inl e ↦ elim (cases_lt a.i b.i) [
        | inl sooner ↦ inr (e, sooner)
        | inr later ↦
            absurd (omega (
              arith,
              a.at,
              b.at,
              stand_row b.x b.i a.i later,
              ap (λ (z : ℕ). stand z a.i) e,
            ))
      ]
    ]
  ]

  -- what stands behind the entries of the moments before y comes at y or later
  pub source_late : (y t k : ℕ) → length (all y) ≤ k → (s : Source t k) → y ≤ s.x
  source_late y t k l s = elim (cases_lt s.x y) [
    | inr late ↦ late
    | inl m ↦ absurd (omega (arith, l, s.at, stands_within s.x y s.i m s.inside s.now))
  ]

  -- so what holds of all that is there holds of each entry, and of two in turn of each two
  pub each_gathered : (P : X → Type 0) (t : ℕ)
      → ((x i : ℕ) → x < t → i < n → there x i ≡ true → P (what x i))
      → (k : ℕ) → k < length (all t) → P (get_or (all t) k d)
  each_gathered P t h k l =
      let s : Source t k = source t k l in
      subst P (sym (source_is t k s)) (h s.x s.i s.before s.inside s.now)

  pub each_two_gathered : (P : X → X → Type 0) (t : ℕ)
      → ((x i y j : ℕ) → Sooner x i y j → j < n → there x i ≡ true → there y j ≡ true → P (what x i) (what y j))
      → (k l : ℕ) → k < l → l < length (all t) → P (get_or (all t) k d) (get_or (all t) l d)
  each_two_gathered P t h k l lt m =
      let a : Source t k = source t k (omega arith) in
      let b : Source t l = source t l m in
      subst (λ v. P v (get_or (all t) l d)) (sym (source_is t k a))
      (subst (P (what a.x a.i)) (sym (source_is t l b))
      (h a.x a.i b.x b.i (sources_in_turn t k l lt a b) b.inside a.now b.now))

  -- a sum over what is gathered
  sum_row : (f : X → ℕ) (x i : ℕ)
      → sum_by f (row x i) ≡ sum_by f (all x) + sum_below (λ j. cond (there x j) (f (what x j)) 0) i
  sum_row f x zero = omega (arith, sum_below-zero (λ j. cond (there x j) (f (what x j)) 0))
  sum_row f x (suc i) =
      omega (
        arith,
        sum_row f x i,
        sum_by-push_if f (row x i) (there x i) (what x i),
        sum_below-suc (λ j. cond (there x j) (f (what x j)) 0) i,
      )

  sum_by_moment : (f : X → ℕ) (t : ℕ)
      → sum_by f (all t) ≡ sum_below (λ x. sum_below (λ i. cond (there x i) (f (what x i)) 0) n) t
  sum_by_moment f zero = sym (sum_below-zero (λ x. sum_below (λ i. cond (there x i) (f (what x i)) 0) n))
  sum_by_moment f (suc t) =
      omega (
        arith,
        sum_row f t n,
        sum_by_moment f t,
        sum_below-suc (λ x. sum_below (λ i. cond (there x i) (f (what x i)) 0) n) t,
      )

  pub sum_gathered : (f : X → ℕ) (t : ℕ)
      → sum_by f (all t) ≡ sum_below (λ i. sum_below (λ x. cond (there x i) (f (what x i)) 0) t) n
  sum_gathered f t = sum_by_moment f t ∙ sum_below-swap (λ x i. cond (there x i) (f (what x i)) 0) t n

  -- how many stand there
  pub length_row : (x i : ℕ) → stand x i ≡ length (all x) + count_below (there x) i
  length_row x zero = omega (arith, sum_below-zero (λ j. cond {A = ℕ} (there x j) 1 0))
  length_row x (suc i) =
      omega (arith, length_row x i, next_stand x i, sum_below-suc (λ j. cond {A = ℕ} (there x j) 1 0) i)

  pub length_at_most : (t : ℕ) → length (all t) ≤ t * n
  length_at_most zero = omega arith
  length_at_most (suc t) = omega (arith, length_at_most t, length_row t n, count_below-le (there t) n)

-- the same of what is there alike
row_same : {X : Type 0} (there there' : ℕ → ℕ → Bool) (what what' : ℕ → ℕ → X) (n : ℕ)
    → ((x i : ℕ) → i < n → there x i ≡ there' x i) → ((x i : ℕ) → i < n → what x i ≡ what' x i)
    → (x i : ℕ) → i ≤ n → (xs ys : List X) → xs ≡ ys
    → gathered_at there what x i xs ≡ gathered_at there' what' x i ys
row_same there there' what what' n t w x zero l xs ys e = e
row_same there there' what what' n t w x (suc i) l xs ys e =
    push_if-same _ _ _ _ _ _ (row_same there there' what what' n t w x i (omega arith) xs ys e) (t x i l)
    (λ _. w x i l)

pub gathered_same : {X : Type 0} (there there' : ℕ → ℕ → Bool) (what what' : ℕ → ℕ → X) (n : ℕ)
    → ((x i : ℕ) → i < n → there x i ≡ there' x i) → ((x i : ℕ) → i < n → what x i ≡ what' x i)
    → (t : ℕ) → gathered there what n t ≡ gathered there' what' n t
gathered_same there there' what what' n t w zero = refl
gathered_same there there' what what' n t w (suc x) =
    row_same there there' what what' n t w x n (omega arith) _ _ (gathered_same there there' what what' n t w x)
