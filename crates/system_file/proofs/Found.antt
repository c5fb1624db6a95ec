-- Tests along a list, and the first place that passes.
use Rattle.std.proofs.Common.{◌≡◌, ℕ, ◌<◌, suc, zero, Bool, true, false, cond, ◌||◌, List, [], ◌∷◌, ◌++◌, length, take, get_or, Option, Some, None, option_map, refl, sym, ap, subst, ◌∙◌, arith, append_assoc}
use Rattle.std.proofs.lemmas.List.{append-nil, get_or_default}
use Rattle.std.proofs.lemmas.List.Folds.{Any-from_list_any}
use Rattle.std.proofs.lemmas.Bool.{or_parts}
use Rattle.std.specs.Prelude.{position}
use Rattle.std.specs.List.{list_any}
use Rattle.toml.specs.Data.{Data}
use Rattle.tree_model.specs.Lists.{first_of}
use Rattle.tree_model.proofs.Lists.{first_here}
use Rattle.system_file.specs.declared.fault.SystemFault.{SystemFault}
use Rattle.system_file.specs.Faults.{in_order}
use Rattle.system_file.proofs.Places.{position_cons}

module _ {A : Type 0} (p : A → Bool) where
  cons_false : (x : A) (xs : List A) (o : Option ℕ) → p x ≡ false → position p xs ≡ o
      → position p (x ∷ xs) ≡ option_map suc o
  cons_false x xs o px e =
      position_cons p x xs ∙ ap (λ b. cond b (Some 0) (option_map suc (position p xs))) px ∙ ap (option_map suc) e

  cons_true : (x : A) (xs : List A) → p x ≡ true → position p (x ∷ xs) ≡ Some 0
  cons_true x xs px = position_cons p x xs ∙ ap (λ b. cond b (Some 0) (option_map suc (position p xs))) px

  -- nothing passes, so there is no place
  pub position_none : (xs : List A) → list_any p xs ≡ false → position p xs ≡ None
  position_none [] h = refl
  position_none (x ∷ xs) h = cons_false x xs None (or_parts (p x) _ h).0 (position_none xs (or_parts (p x) _ h).1)

  -- the first that passes
  pub position_first : (xs : List A) (q : ℕ) (e : A) → q < length xs
      → p (get_or xs q e) ≡ true → list_any p (take q xs) ≡ false → position p xs ≡ Some q
  position_first [] q e h here before = absurd (omega arith)
  position_first (x ∷ xs) zero e h here before = cons_true x xs here
  position_first (x ∷ xs) (suc q) e h here before =
      cons_false x xs (Some q) (or_parts (p x) _ before).0
      (position_first xs q e (omega arith) here (or_parts (p x) _ before).1)

  holds_step : (x : A) (xs : List A) (e : A) (r : ℕ) (b : Bool) → p x ≡ b → (o : Option ℕ)
      → ((k : ℕ) → o ≡ Some k → p (get_or xs k e) ≡ true) → cond b (Some 0) (option_map suc o) ≡ Some r
      → p (get_or (x ∷ xs) r e) ≡ true
  holds_step x xs e r true px o ih h = let z : 0 ≡ r = cc in subst (λ (k : ℕ). p (get_or (x ∷ xs) k e) ≡ true) z px
  holds_step x xs e r false px None ih h = cc
  holds_step x xs e r false px (Some k) ih h =
      let z : suc k ≡ r = cc in subst (λ (n : ℕ). p (get_or (x ∷ xs) n e) ≡ true) z (ih k refl)

  -- what stands at the first place passes
  pub position_holds : (xs : List A) (r : ℕ) (e : A) → position p xs ≡ Some r → p (get_or xs r e) ≡ true
  position_holds [] r e h = cc
  position_holds (x ∷ xs) r e h =
      holds_step x xs e r (p x) refl (position p xs) (λ k. position_holds xs k e) (sym (position_cons p x xs) ∙ h)

-- two tests that agree on every element
pub list_any_same : {A : Type 0} (p s : A → Bool) (xs : List A) (e : A)
    → ((i : ℕ) → i < length xs → p (get_or xs i e) ≡ s (get_or xs i e)) → list_any p xs ≡ list_any s xs
list_any_same p s [] e same = refl
list_any_same p s (x ∷ xs) e same =
    ap (λ b. b || list_any p xs) (same 0 (omega arith))
    ∙ ap (λ b. s x || b) (list_any_same p s xs e (λ i h. same (suc i) (omega arith)))

-- some element passes
pub record PassesAt {A : Type 0} (p : A → Bool) (xs : List A) (e : A) : Type 0 where
  pub place : ℕ
  pub within : place < length xs
  pub passes : p (get_or xs place e) ≡ true

pub any_at : {A : Type 0} (p : A → Bool) (xs : List A) (e : A) → list_any p xs ≡ true → PassesAt p xs e
any_at p xs e h =
    let (k, x, within, at, passes) = Any-from_list_any p xs h in
    record {
      place = k;
      within = within;
      passes = ap p (get_or_default xs k e x within ∙ at) ∙ passes;
    }

-- no element has a fault, so there is none
pub none_in_order : (f : List Data → Data → List SystemFault) (earlier ds : List Data) (e : Data)
    → ((i : ℕ) → i < length ds → f (earlier ++ take i ds) (get_or ds i e) ≡ []) → in_order f earlier ds ≡ []
none_in_order f earlier [] e none = refl
none_in_order f earlier (d ∷ ds) e none =
    let here : f earlier d ≡ [] = ap (λ xs. f xs d) (sym (append-nil earlier)) ∙ none 0 (omega arith) in
    let rest
    = none_in_order f (earlier ++ d ∷ []) ds e (λ i h. ap (λ xs. f xs (get_or ds i e))
    (append_assoc earlier (d ∷ []) (take i ds)) ∙ none (suc i) (omega arith)) in
    ap (λ xs. xs ++ in_order f (earlier ++ d ∷ []) ds) here ∙ rest

-- the first element with a fault has the first fault
pub first_in_order : (f : List Data → Data → List SystemFault) (earlier ds : List Data) (at : ℕ) (e : Data)
    (fault : SystemFault) → at < length ds
    → ((i : ℕ) → i < at → f (earlier ++ take i ds) (get_or ds i e) ≡ [])
    → first_of (f (earlier ++ take at ds) (get_or ds at e)) ≡ Some fault
    → first_of (in_order f earlier ds) ≡ Some fault
first_in_order f earlier [] at e fault h none wrong = absurd (omega arith)
first_in_order f earlier (d ∷ ds) zero e fault h none wrong =
    first_here (f earlier d) _ fault (ap (λ xs. first_of (f xs d)) (sym (append-nil earlier)) ∙ wrong)
first_in_order f earlier (d ∷ ds) (suc at) e fault h none wrong =
    let here : f earlier d ≡ [] = ap (λ xs. f xs d) (sym (append-nil earlier)) ∙ none 0 (omega arith) in
    let rest = first_in_order f (earlier ++ d ∷ []) ds at e fault (omega arith)
    (λ i k. ap (λ xs. f xs (get_or ds i e)) (append_assoc earlier (d ∷ []) (take i ds)) ∙ none (suc i) (omega arith))
    (ap (λ xs. first_of (f xs (get_or ds at e))) (append_assoc earlier (d ∷ []) (take at ds)) ∙ wrong) in
    ap (λ xs. first_of (xs ++ in_order f (earlier ++ d ∷ []) ds)) here ∙ rest
