-- The last row that passes a test: one row later, where rows or tests are alike, and what it is.
use Rattle.std.proofs.Common.{◌≡◌, ℕ, zero, suc, ◌<◌, ◌≤◌, Bool, true, false, cond, ◌&&◌, ◌||◌, leb, Option, Some, None, refl, sym, ◌∙◌, ap, arith, subst, inl, inr}
use Rattle.std.specs.Prelude.{is_some}
use Rattle.std.proofs.lemmas.Bool.{cases_Bool, cases_eq, and_left, le-leb, lt-leb, both_ways, false≢true}
use Rattle.std.proofs.lemmas.Option.{none-some, same_Some}
use Rattle.csv_rows.specs.Last.{last_below}

module _ {Row : Type 0} (passes : Row → Bool) (row : ℕ → Row) where
  pub last_below-zero : last_below passes row 0 ≡ None
  unfolding last_below
  last_below-zero = refl

  pub last_below-suc : (n : ℕ)
      → last_below passes row (suc n) ≡ cond (passes (row n)) (Some (row n)) (last_below passes row n)
  unfolding last_below
  last_below-suc n = refl

  pub last_below-yes : (n : ℕ) → passes (row n) ≡ true → last_below passes row (suc n) ≡ Some (row n)
  last_below-yes n e = last_below-suc n ∙ ap (λ (b : Bool). cond b (Some (row n)) (last_below passes row n)) e

  pub last_below-no : (n : ℕ) → passes (row n) ≡ false → last_below passes row (suc n) ≡ last_below passes row n
  last_below-no n e = last_below-suc n ∙ ap (λ (b : Bool). cond b (Some (row n)) (last_below passes row n)) e

  pub is_some_later : (n : ℕ)
      → is_some (last_below passes row (suc n)) ≡ (passes (row n) || is_some (last_below passes row n))
  is_some_later n =
      ap is_some (last_below-suc n) ∙ either (passes (row n)) (row n) (last_below passes row n)
    where
      either : (b : Bool) (x : Row) (o : Option Row) → is_some (cond b (Some x) o) ≡ (b || is_some o)
      either true x o = refl
      either false x o = refl

  -- rows that do not pass leave the last as it is
  pub none_later : (k n : ℕ) → k ≤ n
      → ((i : ℕ) → k ≤ i → i < n → passes (row i) ≡ false) → last_below passes row n ≡ last_below passes row k
  none_later k zero l none = ap (last_below passes row) (let e : 0 ≡ k = omega arith in e)
  none_later k (suc n) l none = elim (cases_eq k (suc n)) [
    | inl e ↦ ap (last_below passes row) (sym e)
    | inr ne ↦
        last_below-no n (none n (omega arith) (omega arith))
        ∙ none_later k n (omega arith) (λ i a b. none i a (omega arith))
  ]

  -- none is found where no row passes
  pub none_below : (n : ℕ) → ((i : ℕ) → i < n → passes (row i) ≡ false) → last_below passes row n ≡ None
  none_below n none = none_later 0 n (omega arith) (λ i a b. none i b) ∙ last_below-zero

  -- a row that passes is the last where no later one does
  pub last_is : (i n : ℕ) → i < n → passes (row i) ≡ true
      → ((j : ℕ) → i < j → j < n → passes (row j) ≡ false) → last_below passes row n ≡ Some (row i)
  last_is i n l here none = none_later (suc i) n (omega arith) (λ j a b. none j (omega arith) b) ∙ last_below-yes i here

  -- some row is found where one passes
  pub some_row : (n i : ℕ) → i < n → passes (row i) ≡ true → is_some (last_below passes row n) ≡ true
  some_row zero i l h = absurd (omega arith)
  some_row (suc n) i l h = elim (cases_Bool (passes (row n))) [
    | inl b ↦ ap is_some (last_below-yes n b)
    | inr b ↦ elim (cases_eq i n) [
      | inl e ↦ absurd (both_ways _ b (subst (λ (z : ℕ). passes (row z) ≡ true) e h))
      | inr ne ↦ ap is_some (last_below-no n b) ∙ some_row n i (omega arith) h
    ]
  ]

-- what is said of the last row, one row later, and whether there is one
pub said_later : {Row A : Type 0} (said : Option Row → A) (passes : Row → Bool) (row : ℕ → Row) (n : ℕ)
    → said (last_below passes row (suc n))
    ≡ cond (passes (row n)) (said (Some (row n))) (said (last_below passes row n))
said_later {Row} {A} said passes row n =
    ap said (last_below-suc passes row n) ∙ either (passes (row n)) (Some (row n)) (last_below passes row n)
  where
    either : (b : Bool) (x y : Option Row) → said (cond b x y) ≡ cond b (said x) (said y)
    either true x y = refl
    either false x y = refl

-- alike rows, and alike tests
pub same_rows : {Row : Type 0} (passes : Row → Bool) (one other : ℕ → Row) (n : ℕ) → ((i : ℕ) → i < n → one i ≡ other i)
    → last_below passes one n ≡ last_below passes other n
same_rows passes one other zero e = last_below-zero passes one ∙ sym (last_below-zero passes other)
same_rows {Row} passes one other (suc n) e =
    last_below-suc passes one n
    ∙ (ap (λ (r : Row). cond (passes r) (Some r) (last_below passes one n)) (e n (omega arith))
    ∙ (ap (λ (o : Option Row). cond (passes (other n)) (Some (other n)) o)
    (same_rows passes one other n (λ i l. e i (omega arith)))
    ∙ sym (last_below-suc passes other n)))

pub same_tests : {Row : Type 0} (one other : Row → Bool) (row : ℕ → Row) (n : ℕ)
    → ((i : ℕ) → i < n → one (row i) ≡ other (row i)) → last_below one row n ≡ last_below other row n
same_tests one other row zero e = last_below-zero one row ∙ sym (last_below-zero other row)
same_tests {Row} one other row (suc n) e =
    last_below-suc one row n
    ∙ (ap (λ (b : Bool). cond b (Some (row n)) (last_below one row n)) (e n (omega arith))
    ∙ (ap (λ (o : Option Row). cond (other (row n)) (Some (row n)) o)
    (same_tests one other row n (λ i l. e i (omega arith)))
    ∙ sym (last_below-suc other row n)))

-- of the rows at or before x, where those are the first k
pub last_by_moment : {Row : Type 0} (at : Row → ℕ) (passes : Row → Bool) (row : ℕ → Row) (x k n : ℕ) → k ≤ n
    → ((i : ℕ) → i < k → at (row i) ≤ x) → ((i : ℕ) → k ≤ i → i < n → x < at (row i))
    → last_below (λ r. leb (at r) x && passes r) row n ≡ last_below passes row k
last_by_moment at passes row x k n l before after =
    none_later (λ r. leb (at r) x && passes r) row k n l
    (λ i a b. and_left (leb (at (row i)) x) (passes (row i)) (lt-leb (at (row i)) x (after i a b)))
    ∙ same_tests (λ r. leb (at r) x && passes r) passes row k
    (λ i b. ap (λ (t : Bool). t && passes (row i)) (le-leb (at (row i)) x (before i b)))

-- what is found is a row that passes
pub record FoundRow {Row : Type 0} (test : Row → Bool) (row : ℕ → Row) (n : ℕ) (found : Row) : Type 0 where
  pub place : ℕ
  pub within : place < n
  pub is : row place ≡ found
  pub passes : test found ≡ true

pub found_row : {Row : Type 0} (test : Row → Bool) (row : ℕ → Row) (n : ℕ) (found : Row)
    → last_below test row n ≡ Some found → FoundRow test row n found
found_row test row zero found e = absurd (none-some found (sym (last_below-zero test row) ∙ e))
found_row {Row} test row (suc n) found e = elim (cases_Bool (test (row n))) [
  | inl b ↦
      let is : row n ≡ found = same_Some (row n) found (sym (last_below-yes test row n b) ∙ e) in
      record { place = n; within = omega arith; is = is; passes = subst (λ (r : Row). test r ≡ true) is b }
  | inr b ↦
      let h : FoundRow test row n found = found_row test row n found (sym (last_below-no test row n b) ∙ e) in
      record { place = h.place; within = omega (arith, h.within); is = h.is; passes = h.passes }
]

-- and then it is that row
pub some_found : {Row : Type 0} (passes : Row → Bool) (row : ℕ → Row) (n : ℕ) → is_some (last_below passes row n) ≡ true
    → (found : Row) × (last_below passes row n ≡ Some found) × FoundRow passes row n found
some_found {Row} passes row n h = go (last_below passes row n) refl h
  where
    go : (o : Option Row) → last_below passes row n ≡ o → is_some o ≡ true
        → (found : Row) × (last_below passes row n ≡ Some found) × FoundRow passes row n found
    go None e h = absurd (false≢true h)
    go (Some found) e h = (found, e, found_row passes row n found e)
