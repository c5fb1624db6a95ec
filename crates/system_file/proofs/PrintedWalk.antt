-- Walking along printed elements.
use Rattle.std.proofs.Common.{◌≡◌, ℕ, suc, ◌<◌, false, List, [], ◌∷◌, map, length, get_or, refl, sym, subst, arith}
use Rattle.std.proofs.lemmas.List.{get_or-map}
use Rattle.toml.specs.Data.{Data, boolean}
use Rattle.tree_model.proofs.Lists.{length_map}
use Rattle.system_file.specs.Written.{element}

-- each element spells what it was printed for
pub all_spelled : {X : Type 0} (spelled : Data → X) (print : X → Data) (xs : List X) (d : X)
    → ((i : ℕ) → i < length xs → spelled (print (get_or xs i d)) ≡ get_or xs i d) → map spelled (map print xs) ≡ xs
all_spelled spelled print [] d each = refl
all_spelled spelled print (x ∷ xs) d each =
    rw (each 0 (omega arith), all_spelled spelled print xs d (λ i h. each (suc i) (omega arith)))

-- what holds of each thing as it is printed holds of each element
pub each_printed : {X : Type 0} (Holds : Data → Type 0) (print : X → Data) (xs : List X) (d : X)
    → ((i : ℕ) → i < length xs → Holds (print (get_or xs i d)))
    → (i : ℕ) → i < length (map print xs) → Holds (element (map print xs) i)
each_printed Holds print xs d each i h =
    let few : i < length xs = rw (length_map print xs) at h in
    subst Holds (sym (get_or-map print xs i d (boolean false) few)) (each i few)
