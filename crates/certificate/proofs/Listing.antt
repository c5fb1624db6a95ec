-- Elements that are written one after another, with commas between them.
use Rattle.std.proofs.Common.{◌≡◌, ℕ, zero, suc, ◌+◌, ◌<◌, ◌≤◌, List, ◌∷◌, ◌++◌, length, drop, get_or, sym, ◌∙◌, ap, subst, arith, inl, inr, append_assoc, append-nil, drop-cons, add-one}
use Rattle.std.proofs.lemmas.Bool.{cases_lt}
use Rattle.std.proofs.lemmas.List.{drop_all, get_or_default}
use Rattle.cert_reader.specs.Text.{behind, listed}

-- the first of all is written, and of the rest so many: what is left makes the whole, and all that
-- was read is good
pub record ListedTo {A : Type 0} (text : A → List ℕ) (Good : A → Type 0) (before now : List ℕ) (all rest : List A)
    (n : ℕ) : Type 0 where
  pub first : A
  pub all_is : all ≡ first ∷ rest
  pub within : n ≤ length rest
  pub whole : now ++ behind text (drop n rest) ≡ before ++ listed text all
  pub first_good : Good first
  pub good : (k : ℕ) (d : A) → k < n → Good (get_or rest k d)

pub listed_first : {A : Type 0} (text : A → List ℕ) (Good : A → Type 0) (before : List ℕ) (all rest : List A)
    (first : A) → all ≡ first ∷ rest → Good first → ListedTo text Good before (before ++ text first) all rest 0
listed_first text Good before all rest first is good = record {
  first = first;
  all_is = is;
  within = omega arith;
  whole = append_assoc before (text first) (behind text rest) ∙ ap (λ xs. before ++ listed text xs) (sym is);
  first_good = good;
  good = λ k d l. absurd (omega arith);
}

pub listed_more : {A : Type 0} (text : A → List ℕ) (Good : A → Type 0) (before now : List ℕ) (all rest : List A) (n : ℕ)
    (x : A) → n < length rest → x ≡ get_or rest n x → Good x → ListedTo text Good before now all rest n
    → ListedTo text Good before (now ++ 44 ∷ text x) all rest (n + 1)
listed_more text Good before now all rest n x l is good to =
    let step : behind text (drop n rest) ≡ 44 ∷ (text x ++ behind text (drop (n + 1) rest)) =
    ap (behind text) (drop-cons rest n x l)
    ∙ (ap (λ y. 44 ∷ (text y ++ behind text (drop (suc n) rest))) (sym is)
    ∙ ap (λ k. 44 ∷ (text x ++ behind text (drop k rest))) (sym (add-one n))) in
    record {
      first = to.first;
      all_is = to.all_is;
      within = omega arith;
      whole =
          append_assoc now (44 ∷ text x) (behind text (drop (n + 1) rest)) ∙ (ap (λ s. now ++ s) (sym step) ∙ to.whole);
      first_good = to.first_good;
      good = λ k d m. elim (cases_lt k n) [
        | inl sooner ↦ to.good k d sooner
        | inr here ↦
            let same : n ≡ k = omega arith in
            subst (λ (j : ℕ). Good (get_or rest j d)) same (subst Good (is ∙ get_or_default rest n x d l) good)
      ];
    }

pub listed_all : {A : Type 0} (text : A → List ℕ) (Good : A → Type 0) (before now : List ℕ) (all rest : List A) (n : ℕ)
    → length rest ≤ n → ListedTo text Good before now all rest n → now ≡ before ++ listed text all
listed_all text Good before now all rest n l to =
    sym (append-nil now) ∙ (ap (λ xs. now ++ behind text xs) (sym (drop_all n rest l)) ∙ to.whole)

pub all_good : {A : Type 0} (text : A → List ℕ) (Good : A → Type 0) (before now : List ℕ) (all rest : List A) (n : ℕ)
    → length rest ≤ n → ListedTo text Good before now all rest n → (k : ℕ) (d : A) → k < length all
    → Good (get_or all k d)
all_good text Good before now all rest n l to k d m =
    subst (λ xs. Good (get_or xs k d)) (sym to.all_is) (at k (omega (arith, m, ap (λ xs. length xs) to.all_is)))
  where
    at : (j : ℕ) → j < length (to.first ∷ rest) → Good (get_or (to.first ∷ rest) j d)
    at zero h = to.first_good
    at (suc j) h = to.good j d (omega arith)

-- one piece of text behind another
pub then : (before now later a b : List ℕ) → now ≡ before ++ a → later ≡ now ++ b → later ≡ before ++ (a ++ b)
then before now later a b first next = next ∙ (ap (λ (s : List ℕ). s ++ b) first ∙ append_assoc before a b)
