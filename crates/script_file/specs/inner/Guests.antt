-- The guests that edits add.
use Rattle.std.specs.Prelude.{◌≡◌, List, map}
use Rattle.tree_model.specs.View.{PartView}
use Rattle.admission_session.specs.declared.edit.Edit.{Edit}
use Rattle.admission_session.specs.LeafView.{LeafView}
use Rattle.script_file.specs.declared.guests.GuestFault.{GuestFault}
use Rattle.script_file.specs.declared.guests.GuestFault.TheVariants.{Script, Other}
use Rattle.script_file.specs.Guests.{IsFirstOther, guest_of, without_parent}

-- the edits add these guests and do nothing else, or this is why not
pub record AddGuests (edits : List Edit) (guests : List PartView) : Type 0 where
  pub leaves : List LeafView
  pub edits_are : edits ≡ map without_parent leaves
  pub guests_are : guests ≡ map guest_of leaves

abbrev pub IsOther : List Edit → GuestFault → Type 0
IsOther edits (Script fault) = ⊥
IsOther edits (Other row) = IsFirstOther edits row
