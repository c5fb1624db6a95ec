-- Where a name is found among printed elements.
use Rattle.std.proofs.Common.{◌≡◌, ℕ, ◌+◌, ◌<◌, false, List, [], ◌∷◌, ◌++◌, map, length, get_or, Some, None, codes, refl, sym, ◌∙◌, arith, subst}
use Rattle.std.specs.Prelude.{position, bytes_eq}
use Rattle.std.specs.List.{list_any}
use Rattle.std.proofs.lemmas.List.{length-append, length-map, get_or-map, get_or_append_left, get_or-append-add, get_or_default}
use Rattle.std.proofs.lemmas.List.Folds.{list_any_none}
use Rattle.toml.specs.Data.{Data, string, get}
use Rattle.tree_model.specs.System.{AreDistinct}
use Rattle.tree_model.proofs.Distinct.{differ, found_at}
use Rattle.system_file.specs.Document.{is_named}
use Rattle.system_file.specs.inner.Reading.{HaveNames}
use Rattle.system_file.proofs.Found.{position_none}
use Rattle.system_file.proofs.Places.{place_is}

-- a name of the second of two lists is not in the first
not_taken : (before after : List (List ℕ)) → AreDistinct (before ++ after) → (i : ℕ) → i < length after
    → list_any (bytes_eq (get_or after i [])) before ≡ false
not_taken before after distinct i h =
    list_any_none (bytes_eq (get_or after i [])) before (λ k d l. differ (get_or after i []) (get_or before k d)
    (λ e. distinct k (length before + i) [] (omega arith) (omega (arith, length-append before after))
    (get_or_append_left before after [] k l
    ∙ (get_or_default before k [] d l ∙ (sym e ∙ sym (get_or-append-add before after i []))))))

module _ {X : Type 0} (print : X → Data) (name : X → List ℕ)
    (has : (x : X) → get (codes "name") (print x) ≡ Some (string (name x))) (xs : List X) where
  have_names : (xs : List X) → HaveNames (map print xs) (map name xs)
  have_names [] = refl
  have_names (x ∷ xs) = rw (has x, have_names xs)

  -- the name of one of them, where all names are different
  pub place_found : (d : X) → AreDistinct (map name xs) → (i : ℕ) → i < length xs
      → position (is_named (name (get_or xs i d))) (map print xs) ≡ Some i
  place_found d distinct i h =
      place_is (map print xs) (map name xs) (name (get_or xs i d)) (have_names xs)
      ∙ subst (λ (s : List ℕ). position (bytes_eq s) (map name xs) ≡ Some i) (get_or-map name xs i d [] h)
      (found_at (map name xs) i distinct (omega (arith, length-map xs name)))

  -- and that of another thing
  pub place_missed : {Y : Type 0} (other : Y → List ℕ) (ys : List Y) (d : Y)
      → AreDistinct (map name xs ++ map other ys) → (i : ℕ) → i < length ys
      → position (is_named (other (get_or ys i d))) (map print xs) ≡ None
  place_missed other ys d distinct i h =
      place_is (map print xs) (map name xs) (other (get_or ys i d)) (have_names xs)
      ∙ position_none (bytes_eq (other (get_or ys i d))) (map name xs)
      (subst (λ (s : List ℕ). list_any (bytes_eq s) (map name xs) ≡ false) (get_or-map other ys i d [] h)
      (not_taken (map name xs) (map other ys) distinct i (omega (arith, length-map ys other))))
