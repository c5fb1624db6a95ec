-- Cores and parts without faults: their names, and their parents by name and by place.
use Rattle.std.proofs.Common.{◌≡◌, ℕ, ◌+◌, ◌-◌, ◌<◌, ◌≤◌, ◌==◌, Bool, true, false, ◌||◌, nat_lt, List, [], ◌++◌, length, take, drop, get_or, Option, Some, None, refl, sym, ap, subst, ◌∙◌, codes, arith, bytes_eq, length-take-le, length-append, unwrap_or}
use Rattle.std.proofs.lemmas.Bool.{false≢true, or_parts}
use Rattle.std.proofs.lemmas.Bool.Decides.{nat_tests}
use Rattle.std.proofs.lemmas.List.{get_or-take, get_or_append_left, get_or-append-add, take-append-le, take-append-drop}
use Rattle.std.proofs.lemmas.List.Folds.{list_any-append}
use Rattle.std.proofs.Math.Seq.{take-append-add}
use Rattle.std.proofs.lemmas.Slice.Eq.{bytes_eq-Decides}
use Rattle.std.proofs.lemmas.Option.{same_Some}
use Rattle.std.specs.Prelude.{position}
use Rattle.std.specs.List.{list_any}
use Rattle.toml.specs.Data.{Data, boolean, get}
use Rattle.tree_model.specs.declared.place.Parent.{Parent}
use Rattle.tree_model.specs.declared.place.Parent.TheVariants.{Core as on_core, Part as on_part}
use Rattle.system_file.specs.declared.format.Format.{Format}
use Rattle.system_file.specs.Document.{text_of, is_text, is_named, core_or_part, parent_named, parent_at}
use Rattle.system_file.specs.Faults.{in_order, core_faults, part_faults, has_tasks}
use Rattle.system_file.specs.inner.Reading.{is_on}
use Rattle.system_file.proofs.Places.{parent_kept, position_within}
use Rattle.system_file.proofs.Found.{position_none, position_first, position_holds}
use Rattle.system_file.proofs.Faultless.{NewName}
use Rattle.system_file.proofs.Rules.{each, core_name, part_name, ParentThere, part_parent}

-- what holds of each element of two lists holds of each of both
pub each_of_both : (Holds : ℕ → Data → Type 0) (xs ys : List Data)
    → ((i : ℕ) → i < length xs → Holds i (get_or xs i (boolean false)))
    → ((k : ℕ) → k < length ys → Holds (length xs + k) (get_or ys k (boolean false)))
    → (i : ℕ) → i < length (xs ++ ys) → Holds i (get_or (xs ++ ys) i (boolean false))
each_of_both Holds xs ys front back i h = by (nat_lt i (length xs)) refl
  where
    by : (b : Bool) → nat_lt i (length xs) ≡ b → Holds i (get_or (xs ++ ys) i (boolean false))
    by true e =
        let lt : i < length xs = grind (arith, nat_tests) in
        subst (Holds i) (sym (get_or_append_left xs ys (boolean false) i lt)) (front i lt)
    by false e =
        let le : length xs ≤ i = grind (arith, nat_tests) in
        let at : length xs + (i - length xs) ≡ i = omega arith in
        subst (λ (k : ℕ). Holds k (get_or (xs ++ ys) k (boolean false))) at
        (subst (Holds (length xs + (i - length xs))) (sym (get_or-append-add xs ys (i - length xs) (boolean false)))
        (back (i - length xs) (omega (arith, h, length-append xs ys))))

-- what a parent says of the look-ups
pub part_place : (a o : Option ℕ) (k : ℕ) → core_or_part a o ≡ Some (on_part k) → o ≡ Some k
part_place (Some c) o k h = cc
part_place None None k h = cc
part_place None (Some j) k h = cc

core_place : (a o : Option ℕ) (c : ℕ) → core_or_part a o ≡ Some (on_core c) → a ≡ Some c
core_place (Some i) o c h = cc
core_place None None c h = cc
core_place None (Some j) c h = cc

same_place_is : (k q : ℕ) → (k == q) ≡ true → k ≡ q
same_place_is k q h = grind (arith, nat_tests)

itself : (q : ℕ) → (q == q) ≡ true
itself q = grind (arith, nat_tests)

pub on_part_is : (q : ℕ) (p : Parent) → is_on q p ≡ true → p ≡ on_part q
on_part_is q (on_core c) h = cc
on_part_is q (on_part k) h = ap on_part (same_place_is k q h)

module _ (format : Format) (cores parts : List Data) (no_core : in_order core_faults [] cores ≡ [])
    (no_part : in_order (part_faults format cores) [] parts ≡ []) where
  pub part_none : (q : ℕ) → q < length parts
      → part_faults format cores (take q parts) (get_or parts q (boolean false)) ≡ []
  part_none q h = each (part_faults format cores) [] parts q (boolean false) h no_part

  pub part_new : (q : ℕ) → q < length parts → NewName (cores ++ take q parts) (get_or parts q (boolean false))
  part_new q h = part_name format cores (take q parts) (get_or parts q (boolean false)) (part_none q h)

  -- each core and part has a name that no core or part before it has
  pub all_new : (j : ℕ) → j < length (cores ++ parts)
      → NewName (take j (cores ++ parts)) (get_or (cores ++ parts) j (boolean false))
  all_new =
      each_of_both (λ j d. NewName (take j (cores ++ parts)) d) cores parts
      (λ c h. subst (λ (ds : List Data). NewName ds (get_or cores c (boolean false)))
      (sym (take-append-le c cores parts (omega (arith, h)))) (core_name (take c cores) (get_or cores c (boolean false))
      (each core_faults [] cores c (boolean false) h no_core)))
      (λ q h. subst (λ (ds : List Data). NewName ds (get_or parts q (boolean false)))
      (sym (take-append-add cores parts q)) (part_new q h))

  -- a part's parent, found among the parts before it, is found among all
  pub parent_there : (r : ℕ) → r < length parts → ParentThere cores (take r parts) (get_or parts r (boolean false))
  parent_there r h = part_parent format cores (take r parts) (get_or parts r (boolean false)) (part_none r h)

  pub parent_found : (r : ℕ) (h : r < length parts)
      → parent_named cores parts (parent_there r h).text ≡ Some (parent_there r h).parent
  parent_found r h =
      let there = parent_there r h in
      ap (λ ps. parent_named cores ps there.text) (sym (take-append-drop r parts))
      ∙ parent_kept cores (take r parts) (drop r parts) there.text there.parent there.found

  pub parent_is : (r : ℕ) (h : r < length parts)
      → parent_at cores parts (get_or parts r (boolean false)) ≡ (parent_there r h).parent
  parent_is r h =
      ap (λ o. unwrap_or (parent_named cores parts (text_of o)) (on_core 0)) (parent_there r h).is
      ∙ ap (λ o. unwrap_or o (on_core 0)) (parent_found r h)

  -- a parent that is a part is an earlier one without tasks, and any other is a core
  pub parent_part : (q r : ℕ) → q < length parts → parent_at cores parts (get_or parts q (boolean false)) ≡ on_part r
      → (r < q) × (has_tasks (get_or parts r (boolean false)) ≡ false)
  parent_part q r h is =
      let there = parent_there q h in
      let same : there.parent ≡ on_part r = sym (parent_is q h) ∙ is in
      let place
      = part_place (position (is_named there.text) cores) (position (is_named there.text) (take q parts)) r
      (there.found ∙ ap Some same) in
      let lt : r < q
      = rw (length-take-le q parts (omega arith)) at
      (position_within (is_named there.text) (take q parts) r place) in
      (lt, ap has_tasks (sym (get_or-take q parts r (boolean false) lt)) ∙ there.inner r same)

  pub parent_core : (q c : ℕ) → q < length parts → parent_at cores parts (get_or parts q (boolean false)) ≡ on_core c
      → c < length cores
  parent_core q c h is =
      let there = parent_there q h in
      let same : there.parent ≡ on_core c = sym (parent_is q h) ∙ is in
      position_within (is_named there.text) cores c (core_place (position (is_named there.text) cores)
      (position (is_named there.text) (take q parts)) c (there.found ∙ ap Some same))

  link_true : (q r : ℕ) (hq : q < length parts) (hr : r < length parts)
      → bytes_eq (part_new q hq).name (parent_there r hr).text ≡ true → is_on q (parent_there r hr).parent ≡ true
  link_true q r hq hr e =
      let new = part_new q hq in
      let there = parent_there r hr in
      let split : (list_any (is_named new.name) cores || list_any (is_named new.name) (take q parts)) ≡ false
      = sym (list_any-append (is_named new.name) cores (take q parts)) ∙ new.new in
      let first : position (is_named new.name) parts ≡ Some q =
      position_first (is_named new.name) parts q (boolean false) hq
      (ap (is_text new.name) new.is ∙ (bytes_eq-Decides new.name new.name).1 refl) (or_parts _ _ split).1 in
      let named : parent_named cores parts new.name ≡ Some (on_part q) =
      ap (λ a. core_or_part a (position (is_named new.name) parts))
      (position_none (is_named new.name) cores (or_parts _ _ split).0) ∙ ap (core_or_part None) first in
      let found : Some there.parent ≡ Some (on_part q)
      = sym (parent_found r hr) ∙ ap (parent_named cores parts) (sym ((bytes_eq-Decides new.name there.text).0 e))
      ∙ named in
      ap (is_on q) (same_Some there.parent (on_part q) found) ∙ itself q

  link_false : (q r : ℕ) (hq : q < length parts) (hr : r < length parts)
      → bytes_eq (part_new q hq).name (parent_there r hr).text ≡ false → (p : Parent) → (parent_there r hr).parent ≡ p
      → is_on q p ≡ false
  link_false q r hq hr e (on_core c) same = refl
  link_false q r hq hr e (on_part k) same = by (k == q) refl
    where
      holds : is_named (parent_there r hr).text (get_or parts k (boolean false)) ≡ true
      holds = position_holds (is_named (parent_there r hr).text) parts k (boolean false)
          (part_place (position (is_named (parent_there r hr).text) cores)
          (position (is_named (parent_there r hr).text) parts) k (parent_found r hr ∙ ap Some same))

      alike : k ≡ q → bytes_eq (parent_there r hr).text (part_new q hq).name ≡ true
      alike at =
          sym (ap (is_text (parent_there r hr).text) (part_new q hq).is)
          ∙ ap (λ n. is_named (parent_there r hr).text (get_or parts n (boolean false))) (sym at) ∙ holds

      by : (b : Bool) → (k == q) ≡ b → (k == q) ≡ false
      by false f = f
      by true f = absurd (false≢true (sym e
          ∙ (bytes_eq-Decides (part_new q hq).name (parent_there r hr).text).1
          (sym ((bytes_eq-Decides (parent_there r hr).text (part_new q hq).name).0 (alike (same_place_is k q f))))))

  link_at : (q r : ℕ) (hq : q < length parts) (hr : r < length parts) (b : Bool)
      → bytes_eq (part_new q hq).name (parent_there r hr).text ≡ b → is_on q (parent_there r hr).parent ≡ b
  link_at q r hq hr true e = link_true q r hq hr e
  link_at q r hq hr false e = link_false q r hq hr e (parent_there r hr).parent refl

  -- part r is a child of part q where its parent text is the name of part q
  pub link : (q r : ℕ) → q < length parts → r < length parts →
      is_on q (parent_at cores parts (get_or parts r (boolean false)))
      ≡ is_text (text_of (get (codes "name") (get_or parts q (boolean false))))
      (get (codes "parent") (get_or parts r (boolean false)))
  link q r hq hr =
      ap (is_on q) (parent_is r hr) ∙ link_at q r hq hr (bytes_eq (part_new q hq).name (parent_there r hr).text) refl
      ∙ sym (ap (λ o. is_text (text_of o) (get (codes "parent") (get_or parts r (boolean false)))) (part_new q hq).is
      ∙ ap (is_text (part_new q hq).name) (parent_there r hr).is)
