-- The numbers below a bound that pass a test: how many they are, and where each of them stands.
use Rattle.std.proofs.Common.{◌≡◌, ℕ, zero, suc, ◌+◌, ◌<◌, Bool, true, false, cond, List, [], ◌∷◌, ◌++◌, map, length, get_or, refl, sym, ◌∙◌, ap, arith, subst, inl, inr}
use Rattle.std.proofs.lemmas.Bool.{cases_eq, cases_lt, false≢true}
use Rattle.std.proofs.lemmas.List.{get_or_append_left, get_or_push, length_push, map-append}
use Rattle.std.specs.List.{sum_by}
use Rattle.std.proofs.lemmas.List.Sums.{sum_by_push}
use Rattle.slot_model.specs.Slots.{count_below, push_if, places_where}
use Rattle.slot_model.proofs.Sums.{sum_below-zero, sum_below-suc}

-- a list with one more at its end, where a test holds
pub length-push_if : {X : Type 0} (xs : List X) (b : Bool) (y : X) → length (push_if xs b y) ≡ length xs + cond b 1 0
length-push_if xs true y = length_push xs y
length-push_if xs false y = omega arith

pub map-push_if : {X Y : Type 0} (f : X → Y) (xs : List X) (b : Bool) (y : X)
    → map f (push_if xs b y) ≡ push_if (map f xs) b (f y)
map-push_if f xs true y = map-append f xs (y ∷ [])
map-push_if f xs false y = refl

pub sum_by-push_if : {X : Type 0} (f : X → ℕ) (xs : List X) (b : Bool) (y : X)
    → sum_by f (push_if xs b y) ≡ sum_by f xs + cond b (f y) 0
sum_by-push_if f xs true y = sum_by_push f xs y
sum_by-push_if f xs false y = omega arith

pub push_if-kept : {X : Type 0} (xs : List X) (b : Bool) (y d : X) (i : ℕ) → i < length xs
    → get_or (push_if xs b y) i d ≡ get_or xs i d
push_if-kept xs true y d i l = get_or_append_left xs (y ∷ []) d i l
push_if-kept xs false y d i l = refl

pub push_if-last : {X : Type 0} (xs : List X) (b : Bool) (y d : X) (i : ℕ) → b ≡ true → length xs ≡ i
    → get_or (push_if xs b y) i d ≡ y
push_if-last xs true y d i e l = get_or_push xs y d i l
push_if-last xs false y d i e l = absurd (false≢true e)

pub push_if-same : {X : Type 0} (xs ys : List X) (b c : Bool) (x y : X) → xs ≡ ys → b ≡ c → (c ≡ true → x ≡ y)
    → push_if xs b x ≡ push_if ys c y
push_if-same {X} xs ys b true x y e is same =
    ap (λ (t : Bool). push_if xs t x) is
    ∙ (ap (λ (zs : List X). zs ++ x ∷ []) e ∙ ap (λ (z : X). ys ++ z ∷ []) (same refl))
push_if-same xs ys b false x y e is same = ap (λ (t : Bool). push_if xs t x) is ∙ e

-- what is known of each place of a list, and of one more
pub each_pushed : {X : Type 0} (P : ℕ → X → Type 0) (d : X) (xs : List X) (y : X) (n : ℕ) → length xs ≡ n
    → ((k : ℕ) → k < n → P k (get_or xs k d)) → P n y → (k : ℕ) → k < n + 1 → P k (get_or (xs ++ y ∷ []) k d)
each_pushed P d xs y n long old new k l = elim (cases_lt k n) [
  | inl before ↦ subst (P k) (sym (get_or_append_left xs (y ∷ []) d k (omega (arith, long)))) (old k before)
  | inr last ↦
      (let e : k ≡ n = omega arith in
      subst (P k) (sym (get_or_push xs y d k (omega (arith, long)))) (subst (λ (z : ℕ). P z y) (sym e) new))
]

pub places_where-zero : (passes : ℕ → Bool) → places_where passes 0 ≡ []
places_where-zero passes = refl

pub places_where-suc : (passes : ℕ → Bool) (n : ℕ)
    → places_where passes (suc n) ≡ push_if (places_where passes n) (passes n) n
places_where-suc passes n = refl

-- they are as many as are counted
pub length-places_where : (passes : ℕ → Bool) (n : ℕ) → length (places_where passes n) ≡ count_below passes n
length-places_where passes zero = ap length (places_where-zero passes) ∙ sym (sum_below-zero (λ x. cond (passes x) 1 0))
length-places_where passes (suc n) =
    omega (
      arith,
      ap length (places_where-suc passes n),
      length-push_if (places_where passes n) (passes n) n,
      length-places_where passes n,
      sum_below-suc (λ x. cond (passes x) 1 0) n,
    )

-- a number that passes is counted
pub counted_below : (passes : ℕ → Bool) (q n : ℕ) → q < n → passes q ≡ true
    → count_below passes q < count_below passes n
counted_below passes q zero l e = absurd (omega arith)
counted_below passes q (suc n) l e = elim (cases_eq q n) [
  | inl same ↦
      let one : cond {A = ℕ} (passes n) 1 0 ≡ 1
      = ap (λ (b : Bool). cond {A = ℕ} b 1 0) (subst (λ (z : ℕ). passes z ≡ true) same e) in
      omega (arith, ap (count_below passes) same, sum_below-suc (λ x. cond (passes x) 1 0) n, one)
  | inr ne ↦ omega (arith, counted_below passes q n (omega arith) e, sum_below-suc (λ x. cond (passes x) 1 0) n)
]

-- a number that passes stands behind those below it that pass
pub stands_at : (passes : ℕ → Bool) (q n d : ℕ) → q < n → passes q ≡ true
    → get_or (places_where passes n) (count_below passes q) d ≡ q
stands_at passes q zero d l e = absurd (omega arith)
stands_at passes q (suc n) d l e =
    ap (λ (ys : List ℕ). get_or ys (count_below passes q) d) (places_where-suc passes n) ∙ elim (cases_eq q n) [
      | inl same ↦
          push_if-last (places_where passes n) (passes n) n d (count_below passes q)
          (subst (λ (z : ℕ). passes z ≡ true) same e)
          (length-places_where passes n ∙ ap (count_below passes) (sym same)) ∙ sym same
      | inr ne ↦
          push_if-kept (places_where passes n) (passes n) n d (count_below passes q)
          (omega (arith, length-places_where passes n, counted_below passes q n (omega arith) e))
          ∙ stands_at passes q n d (omega arith) e
    ]
