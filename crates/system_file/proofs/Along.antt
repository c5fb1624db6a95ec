-- Walking along the values of an array: those before a place, and those from it on.
use Rattle.std.proofs.Common.{◌≡◌, ℕ, ◌+◌, ◌<◌, ◌≤◌, suc, List, [], ◌∷◌, ◌++◌, map, length, take, drop, get_or, sym, ap, ◌∙◌, append_assoc, drop-cons, add-one, length-take-le, Some}
use Rattle.std.proofs.lemmas.List.{map-append, take_more}
use Rattle.toml.specs.Data.{Data}
use Rattle.toml_items.specs.Item.{item_view}
use Rattle.toml_items.specs.declared.item.Item.{Item}
use Rattle.tree_model.specs.View.{PartView}
use Rattle.tree_model.specs.Lists.{first_of}
use Rattle.tree_model.proofs.Lists.{length_map, first_here}
use Rattle.system_file.specs.declared.fault.SystemFault.{SystemFault}
use Rattle.system_file.specs.Faults.{in_order}
use Rattle.system_file.specs.inner.Reading.{Known}

abbrev pub before : List Item → ℕ → List Data
before vs i = map item_view (take i vs)

abbrev pub from : List Item → ℕ → List Data
from vs i = map item_view (drop i vs)

pub length_before : (vs : List Item) (i : ℕ) → i ≤ length vs → length (before vs i) ≡ i
length_before vs i h = length_map item_view (take i vs) ∙ length-take-le i vs h

-- one more value before
pub before_more : (vs : List Item) (i : ℕ) (v : Item) → i < length vs → v ≡ get_or vs i v
    → before vs (i + 1) ≡ before vs i ++ item_view v ∷ []
before_more vs i v h is =
    ap (map item_view) (take_more vs i v h) ∙ map-append item_view (take i vs) (get_or vs i v ∷ [])
    ∙ ap (λ x. before vs i ++ item_view x ∷ []) (sym is)

pub from_more : (vs : List Item) (i : ℕ) (v : Item) → i < length vs → v ≡ get_or vs i v
    → from vs i ≡ item_view v ∷ from vs (i + 1)
from_more vs i v h is =
    ap (map item_view) (drop-cons vs i v h) ∙ ap (λ x. item_view x ∷ map item_view (drop (suc i) vs)) (sym is)
    ∙ ap (λ n. item_view v ∷ map item_view (drop n vs)) (sym (add-one i))

-- what a reader knows before a value, seen at that value
pub known_at : {cores : List Data} {count : ℕ} {names : List (List ℕ)} {parts now : List PartView} (vs : List Item)
    (i : ℕ) (v : Item) → i < length vs → v ≡ get_or vs i v → now ≡ parts
    → Known cores (before vs i) (from vs i) count names parts
    → Known cores (before vs i) (item_view v ∷ from vs (i + 1)) count names now
known_at {cores} {count} {names} vs i v h is same known =
    rw (same, ← from_more vs i v h is) known

-- the faults along an array, one element at a time
pub along : (at_element : List Data → Data → List SystemFault) (vs : List Item) (i : ℕ) (v : Item) → i < length vs
    → v ≡ get_or vs i v →
    in_order at_element (before vs i) (from vs i)
    ≡ at_element (before vs i) (item_view v) ++ in_order at_element (before vs (i + 1)) (from vs (i + 1))
along at_element vs i v h is = rw (from_more vs i v h is, before_more vs i v h is)

-- the first fault is that of this element
pub faulty : (at_element : List Data → Data → List SystemFault) (vs : List Item) (i : ℕ) (v : Item)
    (fault : SystemFault) → i < length vs → v ≡ get_or vs i v →
    in_order at_element [] (map item_view vs) ≡ in_order at_element (before vs i) (from vs i)
    → first_of (at_element (before vs i) (item_view v)) ≡ Some fault →
    first_of (in_order at_element [] (map item_view vs)) ≡ Some fault
faulty at_element vs i v fault h is so_far wrong = rw (so_far, along at_element vs i v h is) (first_here _ _ _ wrong)

-- this element has no fault
pub faultless : (at_element : List Data → Data → List SystemFault) (vs : List Item) (i : ℕ) (v : Item) → i < length vs
    → v ≡ get_or vs i v →
    in_order at_element [] (map item_view vs) ≡ in_order at_element (before vs i) (from vs i)
    → at_element (before vs i) (item_view v) ≡ [] →
    in_order at_element [] (map item_view vs) ≡ in_order at_element (before vs (i + 1)) (from vs (i + 1))
faultless at_element vs i v h is so_far none =
    so_far ∙ along at_element vs i v h is
    ∙ ap (λ faults. faults ++ in_order at_element (before vs (i + 1)) (from vs (i + 1))) none

-- one more element is spelled
pub spelled_more : {A : Type 0} (spelled : Data → A) (vs : List Item) (i : ℕ) (v : Item) (x : A) → i < length vs
    → v ≡ get_or vs i v → x ≡ spelled (item_view v) →
    map spelled (before vs i) ++ x ∷ [] ≡ map spelled (before vs (i + 1))
spelled_more spelled vs i v x h is same =
    ap (λ y. map spelled (before vs i) ++ y ∷ []) same ∙ sym (map-append spelled (before vs i) (item_view v ∷ []))
    ∙ ap (map spelled) (sym (before_more vs i v h is))

-- the values before a place and those from it on are all
pub all_values : (vs : List Item) (i : ℕ) (v : Item) → i < length vs → v ≡ get_or vs i v
    → before vs i ++ item_view v ∷ from vs (i + 1) ≡ before vs (i + 1) ++ from vs (i + 1)
all_values vs i v h is =
    sym (append_assoc (before vs i) (item_view v ∷ []) (from vs (i + 1)))
    ∙ ap (λ ds. ds ++ from vs (i + 1)) (sym (before_more vs i v h is))
