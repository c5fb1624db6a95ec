-- Records spell one list of guests at most, and where they spell one they have no fault.
use Rattle.std.proofs.Common.{◌≡◌, ◌<◌, ℕ, true, List, [], ◌∷◌, map, length, refl, sym, ◌∙◌, ap, subst, inl, inr, arith}
use Rattle.std.proofs.lemmas.Bool.{both_ways, cases_lt}
use Rattle.tree_model.specs.View.{PartView}
use Rattle.admission_session.specs.declared.edit.Edit.{Edit}
use Rattle.admission_session.specs.declared.edit.Edit.TheVariants.{Add, Remove, Change}
use Rattle.admission_session.specs.LeafView.{LeafView}
use Rattle.script_file.specs.declared.guests.GuestFault.{GuestFault}
use Rattle.script_file.specs.declared.guests.GuestFault.TheVariants.{Script, Other}
use Rattle.script_file.specs.Script.{SpellsScript, script_rows}
use Rattle.script_file.specs.Guests.{guest_of, is_guest, without_parent, edit_at, IsFirstOther, IsGuestFault, SpellsGuests}
use Rattle.script_file.proofs.GuestsAdded.{added_is_guest}
use Rattle.script_file.proofs.OneScript.{one_script, no_script_fault, one_script_fault}

-- the leaf of an edit that adds one
abbrev leaf_of : Edit → LeafView → LeafView
leaf_of (Add leaf parent) other = leaf
leaf_of (Remove name) other = other
leaf_of (Change leaf) other = other

same_leaves : (a b : List LeafView) → map without_parent a ≡ map without_parent b → a ≡ b
same_leaves [] [] e = refl
same_leaves [] (y ∷ b) e = cc
same_leaves (x ∷ a) [] e = cc
same_leaves (x ∷ a) (y ∷ b) e =
    let first : without_parent x ≡ without_parent y = cc in
    let later : map without_parent a ≡ map without_parent b = cc in
    ap (λ (z : LeafView). z ∷ a) (ap (λ (edit : Edit). leaf_of edit x) first)
    ∙ ap (λ (z : List LeafView). y ∷ z) (same_leaves a b later)

pub one_guests : (records : List (List (List ℕ))) (a b : List PartView) → SpellsGuests records a
    → SpellsGuests records b → a ≡ b
one_guests records a b p q =
    p.guests_are
    ∙ (ap (λ (leaves : List LeafView). map guest_of leaves) (same_leaves p.leaves q.leaves
    (one_script records (map without_parent p.leaves) (map without_parent q.leaves) p.spelled q.spelled))
    ∙ sym q.guests_are)

-- a script of guests has no other edit
no_other : (records : List (List (List ℕ))) (leaves : List LeafView) (edits : List Edit) (row : ℕ)
    → SpellsScript records (map without_parent leaves) → SpellsScript records edits → IsFirstOther edits row → ⊥
no_other records leaves edits row p q first =
    let same : edits ≡ map without_parent leaves = one_script records edits (map without_parent leaves) q p in
    both_ways (is_guest (edit_at edits first.place)) first.other
    (subst (λ (z : List Edit). is_guest (edit_at z first.place) ≡ true) (sym same) (added_is_guest leaves first.place
    (subst (λ (z : List Edit). first.place < length z) same first.is_edit)))

pub no_guest_fault : (records : List (List (List ℕ))) (a : List PartView) (fault : GuestFault) → SpellsGuests records a
    → IsGuestFault records fault → ⊥
no_guest_fault records a (Script fault) p h =
    no_script_fault records (map without_parent p.leaves) fault p.spelled h
no_guest_fault records a (Other row) p h = no_other records p.leaves h.edits row p.spelled h.spelled h.first

one_other : (edits : List Edit) (a b : ℕ) → IsFirstOther edits a → IsFirstOther edits b → a ≡ b
one_other edits a b p q = elim (cases_lt p.place q.place) [
  | inl before ↦ absurd (both_ways (is_guest (edit_at edits p.place)) p.other (q.before p.place before))
  | inr not_before ↦ elim (cases_lt q.place p.place) [
    | inl behind ↦ absurd (both_ways (is_guest (edit_at edits q.place)) q.other (p.before q.place behind))
    | inr not_behind ↦ omega (arith, p.row_is, q.row_is, not_before, not_behind)
  ]
]

pub one_guest_fault : (records : List (List (List ℕ))) (a b : GuestFault) → IsGuestFault records a
    → IsGuestFault records b → a ≡ b
one_guest_fault records (Script f) (Script g) p q = ap Script (one_script_fault (script_rows records) f g p q)
one_guest_fault records (Script f) (Other r) p q = absurd (no_script_fault records q.edits f q.spelled p)
one_guest_fault records (Other r) (Script g) p q = absurd (no_script_fault records p.edits g p.spelled q)
one_guest_fault records (Other r) (Other s) p q =
    ap Other (one_other p.edits r s p.first (subst (λ (edits : List Edit). IsFirstOther edits s)
    (one_script records q.edits p.edits q.spelled p.spelled) q.first))
