-- An item, level by level, and lists of them.
use Rattle.std.proofs.Common.{◌≡◌, ℕ, ℤ, ◌<◌, ◌+◌, List, [], ◌∷◌, ◌++◌, map, length, take, get_or, String, string_bytes, Vec, Global, Bor, refl, sym, ap, rules}
use Rattle.std.proofs.lemmas.List.{map-append, take_more}
use Rattle.std.specs.Map.Iter.{deref_pair}
use Rattle.toml.specs.Data.{item, member, string, integer, array, table, push_item}
use Rattle.toml.specs.View.{view, items_view, members_view}
use Rattle.toml.specs.declared.value.Value.{Value}
use Rattle.toml.proofs.Views.{with_last, items_view-push, members_view-last}
use Rattle.toml_items.specs.declared.item.Item.{Item, Text, Number, List as ListCase, Table, the_lemmas}
use Rattle.toml_items.specs.Item.{item_view, list_view, entries_view}

abbrev pub Entry : Type 0
Entry = Bor (List ℕ) × Item

pub item_view-Text : (s : Bor (List ℕ)) → item_view (Text s) ≡ string s.now
item_view-Text s = search (rules, the_lemmas)

pub item_view-Number : (z : ℤ) → item_view (Number z) ≡ integer z
item_view-Number z = search (rules, the_lemmas)

pub item_view-List : (v : Vec Item Global) → item_view (ListCase v) ≡ array (list_view v.items)
item_view-List v = search (rules, the_lemmas)

pub item_view-Table : (v : Vec Entry Global) → item_view (Table v) ≡ table (entries_view v.items)
item_view-Table v = search (rules, the_lemmas)

-- one more item at the end
pub list_view-push : (items : List Item) (x : Item)
    → list_view (items ++ x ∷ []) ≡ push_item (list_view items) (item_view x)
list_view-push [] x = refl
list_view-push (y ∷ items) x = ap (item (item_view y)) (list_view-push items x)

pub list_view-more : (items : List Item) (x : Item) (vs : List Value) (i : ℕ) (v : Value)
    → i < length vs → v ≡ get_or vs i v → list_view items ≡ items_view (take i vs)
    → item_view x ≡ view v → list_view (items ++ x ∷ []) ≡ items_view (take (i + 1) vs)
list_view-more items x vs i v h is so_far same =
    rw (list_view-push items x, so_far, same, take_more vs i v h, ← is)
    (sym (items_view-push (take i vs) v))

-- one more entry at the end
pub entries_view-push : (entries : List Entry) (e : Entry)
    → entries_view (entries ++ e ∷ []) ≡ with_last (entries_view entries) e.0.now (item_view e.1)
entries_view-push [] e = refl
entries_view-push (x ∷ entries) e =
    ap (member x.0.now (item_view x.1)) (entries_view-push entries e)

pub entries_view-more : (entries : List Entry) (k : Bor (List ℕ)) (x : Item)
    (seen : List (Bor (String Global) × Bor Value)) (p : Bor (String Global) × Bor Value)
    → entries_view entries ≡ members_view (map deref_pair seen)
    → k.now ≡ string_bytes p.0.now → item_view x ≡ view p.1.now
    → entries_view (entries ++ (k, x) ∷ []) ≡ members_view (map deref_pair (seen ++ p ∷ []))
entries_view-more entries k x seen p so_far key same =
    rw (entries_view-push entries (k, x), so_far, key, same, map-append deref_pair seen (p ∷ []))
    (sym (members_view-last (map deref_pair seen) p.0.now p.1.now))
