-- The guests that a script adds, on no parent.
use Rattle.std.specs.Prelude.{◌≡◌, ℕ, ◌<◌, Bool, true, false, List, [], length, map, slice_index_or, Some, None}
use Rattle.tree_model.specs.declared.place.Parent.TheVariants.{Core}
use Rattle.tree_model.specs.View.{PartView}
use Rattle.csv_rows.specs.Rules.{row_of}
use Rattle.admission_session.specs.declared.edit.Edit.{Edit}
use Rattle.admission_session.specs.declared.edit.Edit.TheVariants.{Add, Remove, Change}
use Rattle.admission_session.specs.LeafView.{LeafView}
use Rattle.admission_session.specs.LeafPart.{leaf_part}
use Rattle.script_file.specs.declared.guests.GuestFault.{GuestFault}
use Rattle.script_file.specs.declared.guests.GuestFault.TheVariants.{Script, Other}
use Rattle.script_file.specs.Script.{SpellsScript, IsScriptFault, script_rows}

-- an edit that adds a leaf and names no parent
abbrev pub is_guest : Edit → Bool
is_guest (Add leaf None) = true
is_guest (Add leaf (Some parent)) = false
is_guest (Remove name) = false
is_guest (Change leaf) = false

abbrev pub without_parent : LeafView → Edit
without_parent leaf = Add leaf None

-- the part that such a leaf is until it is placed
abbrev pub guest_of : LeafView → PartView
guest_of leaf = leaf_part leaf (Core 0) false

-- the records spell a script that adds these guests and does nothing else
pub record SpellsGuests (records : List (List (List ℕ))) (guests : List PartView) : Type 0 where
  pub leaves : List LeafView
  pub spelled : SpellsScript records (map without_parent leaves)
  pub guests_are : guests ≡ map guest_of leaves

abbrev pub edit_at : List Edit → ℕ → Edit
edit_at edits i = slice_index_or edits i (Remove [])

-- the row of the first edit that adds no guest
pub record IsFirstOther (edits : List Edit) (row : ℕ) : Type 0 where
  pub place : ℕ
  pub row_is : row ≡ row_of place
  pub is_edit : place < length edits
  pub before : (i : ℕ) → i < place → is_guest (edit_at edits i) ≡ true
  pub other : is_guest (edit_at edits place) ≡ false

-- a script that has such an edit
pub record HasOther (records : List (List (List ℕ))) (row : ℕ) : Type 0 where
  pub edits : List Edit
  pub spelled : SpellsScript records edits
  pub first : IsFirstOther edits row

-- why the records spell no guests
abbrev pub IsGuestFault : List (List (List ℕ)) → GuestFault → Type 0
IsGuestFault records (Script fault) = IsScriptFault (script_rows records) fault
IsGuestFault records (Other row) = HasOther records row
