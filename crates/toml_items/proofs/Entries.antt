-- A new entry at its place among the entries of a table.
use Rattle.std.proofs.Common.{◌≡◌, ℕ, suc, ◌+◌, ◌-◌, ◌<◌, ◌≤◌, List, [], ◌∷◌, length, get_or, drop, None, Less, Greater, nat_cmp, refl, ap, arith}
use Rattle.std.proofs.lemmas.List.{drop_more}
use Rattle.std.specs.Borrow.{Bor}
use Rattle.std.specs.List.{insert}
use Rattle.std.specs.Cmp.{nat_cmp_is}
use Rattle.std.specs.Cmp.Lexicographic.{slice_cmp}
use Rattle.toml_parser.specs.Lexical.{first}
use Rattle.toml.specs.Data.{get_member, member}
use Rattle.toml_items.specs.declared.item.Item.{Item}
use Rattle.toml_items.specs.Item.{item_view, entries_view}
use Rattle.toml_items.specs.Plain.{insert_member}

abbrev pub Entry : Type 0
Entry = Bor (List ℕ) × Item

-- where the first bytes of two keys differ, they tell the order
pub less_first : (a b : List ℕ) → first a < first b → slice_cmp nat_cmp a b ≡ Less
less_first [] [] h = absurd (omega (arith, h))
less_first [] (y ∷ ys) h = refl
less_first (x ∷ xs) [] h = absurd (omega (arith, h))
less_first (x ∷ xs) (y ∷ ys) h = rw (← nat_cmp_is x y Less h) refl

pub greater_first : (a b : List ℕ) → first b < first a → slice_cmp nat_cmp a b ≡ Greater
greater_first [] [] h = absurd (omega (arith, h))
greater_first [] (y ∷ ys) h = absurd (omega (arith, h))
greater_first (x ∷ xs) [] h = refl
greater_first (x ∷ xs) (y ∷ ys) h = rw (← nat_cmp_is x y Greater h) refl

-- The key is new among the entries, and this is its place there.
abbrev pub IsPlace : List ℕ → List Entry → ℕ → Type 0
IsPlace key entries place = record {
  new : get_member key (entries_view entries) ≡ None;
  within : place ≤ length entries;
  put : (k : Bor (List ℕ)) → k.now ≡ key → (item : Item) →
      insert_member key (item_view item) (entries_view entries)
      ≡ entries_view (insert entries place (k, item));
}

IsPlace-behind : (key : List ℕ) (e : Entry) (es : List Entry) (place : ℕ) → slice_cmp nat_cmp key e.0.now ≡ Greater
    → IsPlace key es place → IsPlace key (e ∷ es) (suc place)
IsPlace-behind key e es place greater h = record {
  new = rw greater h.new;
  within = omega (arith, h.within);
  put = λ k same item. rw greater (ap (member e.0.now (item_view e.1)) (h.put k same item));
}

-- the same among the entries from an index on
abbrev pub IsPlaceFrom : ℕ → List ℕ → List Entry → ℕ → Type 0
IsPlaceFrom at key entries place = (at ≤ place) × IsPlace key (drop at entries) (place - at)

pub IsPlaceFrom-behind : (key : List ℕ) (entries : List Entry) (at place : ℕ) (d : Entry) → at < length entries
    → slice_cmp nat_cmp key (get_or entries at d).0.now ≡ Greater
    → IsPlaceFrom (at + 1) key entries place → IsPlaceFrom at key entries place
IsPlaceFrom-behind key entries at place d within greater h =
    let more : place - at ≡ suc (place - (at + 1)) = omega (arith, h.0) in (
      omega (arith, h.0),
      rw (more, drop_more entries at d within)
          (IsPlace-behind key (get_or entries at d) (drop (at + 1) entries) (place - (at + 1)) greater h.1),
    )
