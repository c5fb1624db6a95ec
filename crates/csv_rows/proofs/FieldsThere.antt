-- The fields of a record.
use Rattle.std.proofs.Common.{◌≡◌, ◌<◌, ◌≤◌, ℕ, zero, suc, Bor, List, [], ◌∷◌, length, get_or, map, Some, None, refl, arith}
use Rattle.std.specs.List.{range_with_len}
use Rattle.std.proofs.lemmas.List.FromFn.{fill_by_all}
use Rattle.std.proofs.lemmas.Option.{same_Some, none-some}
use Rattle.csv.specs.Records.{field_at}
use Rattle.csv_rows.specs.Row.{texts_of}

pub field_there : (fs : List (List ℕ)) (i : ℕ) → i < length fs → None ≡ field_at fs i → ⊥
unfolding field_at
field_there [] i l e = omega (arith, l)
field_there (f ∷ fs) zero l e = none-some f e
field_there (f ∷ fs) (suc i) l e = field_there fs i (omega (arith, l)) e

pub field_is : (fs : List (List ℕ)) (i : ℕ) (x : List ℕ) → Some x ≡ field_at fs i → x ≡ get_or fs i []
unfolding field_at
field_is [] i x e = cc
field_is (f ∷ fs) zero x e = same_Some x f e
field_is (f ∷ fs) (suc i) x e = field_is fs i x e

-- a record of so many fields is the list of them
pub fields_listed : (fs : List (List ℕ)) (n : ℕ) → length fs ≡ n → fs ≡ map (λ i. get_or fs i []) (range_with_len 0 n)
fields_listed fs n l = fill_by_all (λ i. get_or fs i []) fs n [] l (λ i m. refl)

-- the same of fields that stand in a text
pub text_there : (fields : List (Bor (List ℕ))) (i : ℕ) (d : Bor (List ℕ)) → i < length fields
    → Some (get_or fields i d).now ≡ field_at (texts_of fields) i
unfolding field_at
text_there [] i d l = absurd (omega (arith, l))
text_there (f ∷ fs) zero d l = refl
text_there (f ∷ fs) (suc i) d l = text_there fs i d (omega (arith, l))

pub no_text_there : (fields : List (Bor (List ℕ))) (i : ℕ) → length fields ≤ i → None ≡ field_at (texts_of fields) i
unfolding field_at
no_text_there [] i l = refl
no_text_there (f ∷ fs) zero l = absurd (omega (arith, l))
no_text_there (f ∷ fs) (suc i) l = no_text_there fs i (omega (arith, l))
