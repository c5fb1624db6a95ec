-- The guests that edits add, one edit after another.
use Rattle.std.proofs.Common.{◌≡◌, ◌<◌, ℕ, zero, suc, ◌+◌, true, false, List, [], ◌∷◌, ◌++◌, map, length, refl, sym, ◌∙◌, ap, subst, arith}
use Rattle.std.proofs.lemmas.List.{length-append, map-append}
use Rattle.tree_model.specs.View.{PartView}
use Rattle.admission_session.specs.declared.edit.Edit.{Edit}
use Rattle.admission_session.specs.LeafView.{LeafView}
use Rattle.script_file.specs.Guests.{IsFirstOther, edit_at, guest_of, is_guest, without_parent}
use Rattle.script_file.specs.inner.Guests.{AddGuests}

-- what adds a leaf without a parent adds a guest
pub added_is_guest : (leaves : List LeafView) (i : ℕ) → i < length (map without_parent leaves)
    → is_guest (edit_at (map without_parent leaves) i) ≡ true
added_is_guest [] i l = absurd (omega (arith, l))
added_is_guest (leaf ∷ leaves) zero l = refl
added_is_guest (leaf ∷ leaves) (suc i) l = added_is_guest leaves i (omega (arith, l))

-- one guest more
pub one_more : (edits : List Edit) (guests : List PartView) (edit : Edit) (guest : PartView) → AddGuests edits guests
    → (leaf : LeafView) × (edit ≡ without_parent leaf) × (guest ≡ guest_of leaf)
    → AddGuests (edits ++ edit ∷ []) (guests ++ guest ∷ [])
one_more edits guests edit guest h (leaf, adds, is) = record {
  leaves = h.leaves ++ leaf ∷ [];
  edits_are =
      ap (λ (z : List Edit). z ++ edit ∷ []) h.edits_are
      ∙ (ap (λ (e : Edit). map without_parent h.leaves ++ e ∷ []) adds
      ∙ sym (map-append without_parent h.leaves (leaf ∷ [])));
  guests_are =
      ap (λ (z : List PartView). z ++ guest ∷ []) h.guests_are
      ∙ (ap (λ (g : PartView). map guest_of h.leaves ++ g ∷ []) is
      ∙ sym (map-append guest_of h.leaves (leaf ∷ [])));
}

-- the edits at the places of a list with more behind it
edit_before : (edits later : List Edit) (i : ℕ) → i < length edits → edit_at (edits ++ later) i ≡ edit_at edits i
edit_before [] later i l = absurd (omega (arith, l))
edit_before (edit ∷ edits) later zero l = refl
edit_before (edit ∷ edits) later (suc i) l = edit_before edits later i (omega (arith, l))

edit_behind : (edits : List Edit) (edit : Edit) (later : List Edit)
    → edit_at (edits ++ edit ∷ later) (length edits) ≡ edit
edit_behind [] edit later = refl
edit_behind (first ∷ edits) edit later = edit_behind edits edit later

-- behind guests, the first edit that adds none
pub first_other : (all edits : List Edit) (guests : List PartView) (edit : Edit) (later : List Edit) (row : ℕ)
    → AddGuests edits guests → row ≡ length edits + 2 → all ≡ edits ++ edit ∷ later → is_guest edit ≡ false
    → IsFirstOther all row
first_other all edits guests edit later row h n e other = record {
  place = length edits;
  row_is = omega (arith, n);
  is_edit = omega (arith, ap (λ (z : List Edit). length z) e, length-append edits (edit ∷ later));
  before = λ i l.
      ap (λ (z : List Edit). is_guest (edit_at z i)) e
      ∙ (ap is_guest (edit_before edits (edit ∷ later) i l)
      ∙ (ap (λ (z : List Edit). is_guest (edit_at z i)) h.edits_are
      ∙ added_is_guest h.leaves i (subst (λ (z : List Edit). i < length z) h.edits_are l)));
  other =
      ap (λ (z : List Edit). is_guest (edit_at z (length edits))) e
      ∙ (ap is_guest (edit_behind edits edit later) ∙ other);
}
