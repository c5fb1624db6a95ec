-- Names that are looked for among elements.
use Rattle.std.proofs.lemmas.List.{map-append}
use Rattle.std.proofs.Common.{◌≡◌, ℕ, List, [], ◌∷◌, ◌++◌, map, Some, sym, ap, ◌∙◌, codes}
use Rattle.std.specs.Prelude.{bytes_eq}
use Rattle.std.specs.List.{list_any}
use Rattle.toml.specs.Data.{Data, string, get}
use Rattle.tree_model.proofs.Lists.{list_any_map}
use Rattle.system_file.specs.Document.{is_text, is_named}
use Rattle.system_file.specs.inner.Reading.{HaveNames}

-- a name is taken by an element where it is among the names
pub taken_is : (ds : List Data) (names : List (List ℕ)) (s : List ℕ) → HaveNames ds names
    → list_any (is_named s) ds ≡ list_any (bytes_eq s) names
taken_is ds names s have =
    sym (list_any_map (is_text s) (λ d. get (codes "name") d) ds) ∙ ap (list_any (is_text s)) have
    ∙ list_any_map (is_text s) (λ name. Some (string name)) names

-- one more element and its name
pub more_names : (ds : List Data) (names : List (List ℕ)) (d : Data) (s : List ℕ) → HaveNames ds names
    → get (codes "name") d ≡ Some (string s) → HaveNames (ds ++ d ∷ []) (names ++ s ∷ [])
more_names ds names d s have is =
    map-append (λ (e : Data). get (codes "name") e) ds (d ∷ [])
    ∙ ap (λ xs. xs ++ get (codes "name") d ∷ []) have
    ∙ ap (λ x. map (λ name. Some (string name)) names ++ x ∷ []) is
    ∙ sym (map-append (λ (name : List ℕ). Some (string name)) names (s ∷ []))
