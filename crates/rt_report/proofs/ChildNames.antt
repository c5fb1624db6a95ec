-- The names of a node's children, counted as they come.
use Rattle.std.proofs.Common.{◌≡◌, ◌≢◌, ℕ, suc, ◌+◌, ◌-◌, ◌<◌, add-one, Bool, true, false, cond, [], length, get_or, sym, ◌∙◌, ap, arith}
use Rattle.std.proofs.lemmas.List.{get_or-map, get_or_default, length-map}
use Rattle.slot_model.specs.Slots.{count_below, places_where}
use Rattle.slot_model.proofs.Sums.{sum_below-suc}
use Rattle.slot_model.proofs.Places.{length-places_where, counted_below, stands_at}
use Rattle.tree_model.specs.declared.place.Place.{Place}
use Rattle.tree_model.specs.View.{PartView, SystemView}
use Rattle.tree_model.specs.System.{part_at}
use Rattle.tree_model.specs.Tree.{is_child, same_place, place_of}
use Rattle.rt_report.specs.Words.{names_among, child_name}

-- the names are as many as the children
count_names : (sys : SystemView) (node : Place) (n : ℕ)
    → length (names_among sys node n) ≡ count_below (is_child sys node) n
count_names sys node n =
    length-map (places_where (is_child sys node) n) (λ q. (part_at sys q).name)
    ∙ length-places_where (is_child sys node) n

one_more : (sys : SystemView) (node : Place) (n : ℕ)
    → length (names_among sys node (suc n)) ≡ length (names_among sys node n) + cond (is_child sys node n) 1 0
one_more sys node n =
    omega
    (arith, count_names sys node n, count_names sys node (suc n), sum_below-suc (λ x. cond (is_child sys node x) 1 0) n)

-- the child before which i children stand has the name at i
name_among : (sys : SystemView) (node : Place) (q i n : ℕ) → q < n → is_child sys node q ≡ true
    → length (names_among sys node q) ≡ i → get_or (names_among sys node n) i [] ≡ (part_at sys q).name
name_among sys node q i n l e s =
    let at : i ≡ count_below (is_child sys node) q = sym s ∙ count_names sys node q in
    get_or-map (λ p. (part_at sys p).name) (places_where (is_child sys node) n) i 0 []
    (omega (arith, at, length-places_where (is_child sys node) n, counted_below (is_child sys node) q n l e))
    ∙ ap (λ p. (part_at sys p).name)
    (ap (λ k. get_or (places_where (is_child sys node) n) k 0) at ∙ stands_at (is_child sys node) q n 0 l e)

-- a part that is read from the list is the part at that place
pub read_part : (sys : SystemView) (q : ℕ) (part : PartView) → q < length sys.parts → part ≡ get_or sys.parts q part
    → part_at sys q ≡ part
read_part sys q part l is = get_or_default sys.parts q _ part l ∙ sym is

pub is_child_read : (sys : SystemView) (node : Place) (q : ℕ) (part : PartView) (b : Bool) → q < length sys.parts
    → part ≡ get_or sys.parts q part → b ≡ same_place (place_of part.parent) node → is_child sys node q ≡ b
is_child_read sys node q part b l is e =
    ap (λ (p : PartView). same_place (place_of p.parent) node) (read_part sys q part l is) ∙ sym e

pub child_name_at : (sys : SystemView) (node : Place) (q i : ℕ) (part : PartView) → q < length sys.parts
    → part ≡ get_or sys.parts q part → is_child sys node q ≡ true → length (names_among sys node q) ≡ i
    → child_name sys node i ≡ part.name
child_name_at sys node q i part l is e s =
    name_among sys node q i (length sys.parts) l e s ∙ ap (λ (p : PartView). p.name) (read_part sys q part l is)

-- counted down, one more child is one fewer to come
pub counted_yes : (sys : SystemView) (node : Place) (q i before : ℕ) → is_child sys node q ≡ true → before ≢ 0
    → before + length (names_among sys node q) ≡ i → (before - 1) + length (names_among sys node (q + 1)) ≡ i
counted_yes sys node q i before e ne s =
    rw (add-one) (omega (arith, one_more sys node q, ap (λ b. cond {A = ℕ} b 1 0) e))

pub counted_no : (sys : SystemView) (node : Place) (q i before : ℕ) → is_child sys node q ≡ false
    → before + length (names_among sys node q) ≡ i → before + length (names_among sys node (q + 1)) ≡ i
counted_no sys node q i before e s = rw (add-one) (omega (arith, one_more sys node q, ap (λ b. cond {A = ℕ} b 1 0) e))
