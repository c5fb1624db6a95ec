-- Values that are all there, one after the other.
use Rattle.std.proofs.Common.{◌≡◌, ℕ, List, [], ◌∷◌, ◌++◌, map, Option, Some, None, refl, sym, ◌∙◌, ap, append_assoc}
use Rattle.std.specs.Prelude.{option_map}
use Rattle.script_file.specs.Script.{all_there}

-- before the first one
pub none_yet : {A : Type 0} (o : Option (List A)) → o ≡ option_map (λ later. [] ++ later) o
none_yet None = refl
none_yet (Some xs) = refl

-- and behind one more
one_more : {A : Type 0} (before after : List A) (x : A) (o : Option (List A)) → after ≡ before ++ x ∷ []
    → option_map (λ later. before ++ later) (option_map (λ xs. x ∷ xs) o) ≡ option_map (λ later. after ++ later) o
one_more before after x None e = refl
one_more {A = A} before after x (Some xs) e =
    ap Some (sym (append_assoc before (x ∷ []) xs) ∙ ap (λ (z : List A). z ++ xs) (sym e))

pub next_there : {A : Type 0} (reads : List ℕ → Option A) (text : List ℕ) (pieces later : List (List ℕ))
    (all : Option (List A)) (before after : List A) (x : A)
    → all ≡ option_map (λ xs. before ++ xs) (all_there (map reads pieces)) → pieces ≡ text ∷ later
    → reads text ≡ Some x → after ≡ before ++ x ∷ []
    → all ≡ option_map (λ xs. after ++ xs) (all_there (map reads later))
next_there {A = A} reads text pieces later all before after x so_far is there more =
    so_far
    ∙ (ap (λ (ps : List (List ℕ)). option_map (λ (xs : List A). before ++ xs) (all_there (map reads ps))) is
    ∙ (ap (λ (o : Option A). option_map (λ (xs : List A). before ++ xs) (all_there (o ∷ map reads later))) there
    ∙ one_more before after x (all_there (map reads later)) more))
