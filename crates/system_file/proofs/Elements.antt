-- The arrays and the tables of a document, which are seen through a map.
use Rattle.std.proofs.lemmas.List.{drop_more}
use Rattle.std.proofs.lemmas.Map.Text.{is_eq-slice_cmp}
use Rattle.std.proofs.Common.{◌≡◌, ℕ, ◌+◌, cond, List, [], ◌∷◌, map, length, ◌<◌, get_or, drop, Some, refl, sym, ap, ◌∙◌, Bor}
use Rattle.std.specs.Prelude.{bytes_eq}
use Rattle.std.specs.List.{list_any, list_all}
use Rattle.toml.specs.Data.{Data, get_member}
use Rattle.toml.specs.View.{items_of}
use Rattle.toml_items.specs.Item.{item_view, list_view, entries_view}
use Rattle.toml_items.specs.declared.item.Item.{Item}
use Rattle.toml_items.proofs.Members.{get_member-first}
use Rattle.tree_model.proofs.Lists.{list_any_map}
use Rattle.system_file.specs.Document.{elements_of}
use Rattle.system_file.specs.Faults.{has_only}

-- the elements of an array that is made of them
pub elements_back : (ds : List Data) → elements_of (items_of ds) ≡ ds
elements_back [] = refl
elements_back (d ∷ ds) = ap (λ es. d ∷ es) (elements_back ds)

-- the elements of an array are the views of its values
pub elements_view : (vs : List Item) → elements_of (list_view vs) ≡ map item_view vs
elements_view vs = elements_back (map item_view vs)

abbrev pub Entry : Type 0
Entry = Bor (List ℕ) × Item

-- the keys of a table, and the listed keys as a slice of texts has them
pub only_listed : (listed : List (Bor (List ℕ))) (es : List Entry)
    → has_only (map (λ l. l.now) listed) (entries_view es)
    ≡ list_all (λ (e : Entry). list_any (λ l. bytes_eq e.0.now l.now) listed) es
only_listed listed [] = refl
only_listed listed (e ∷ es) = rw (list_any_map (bytes_eq e.0.now) (λ l. l.now) listed, only_listed listed es)

-- a look-up among the entries from a place on
pub looked_at : (k : List ℕ) (es : List Entry) (i : ℕ) (e : Entry)
    → i < length es → e ≡ get_or es i e → get_member k (entries_view (drop i es))
    ≡ cond (bytes_eq k e.0.now) (Some (item_view e.1)) (get_member k (entries_view (drop (i + 1) es)))
looked_at k es i e h is =
    ap (λ t. get_member k (entries_view t)) (drop_more es i e h)
    ∙ ap (λ t. get_member k (entries_view (t ∷ drop (i + 1) es))) (sym is)
    ∙ get_member-first k e.0.now (item_view e.1) _
    ∙ ap (λ b. cond b (Some (item_view e.1)) (get_member k (entries_view (drop (i + 1) es))))
    (is_eq-slice_cmp k e.0.now)
