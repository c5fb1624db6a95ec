-- `place FILE GUESTS`: what it answers, and what its yes and no mean to who runs the host.
use Rattle.std.specs.Prelude.{◌≡◌, ◌≢◌, ℕ, ◌<◌, ◌⊎◌, false, List, [], length, take, Ok, ⊤}
use Rattle.toml.specs.Text.{IsDocumentText}
use Rattle.csv_rows.specs.Reading.{records_of}
use Rattle.csv_rows.specs.Rules.{row_of}
use Rattle.tree_model.specs.declared.plan.Refusal.{Refusal}
use Rattle.tree_model.specs.View.{PartView, SystemView}
use Rattle.tree_model.specs.Tree.{NoLoss}
use Rattle.tree_model.specs.Admission.{Admitted, FirstRefusal}
use Rattle.compose_tree.specs.Keeping.{Keeping}
use Rattle.compose_tree.specs.Truth.{IsTight, RefusalHolds}
use Rattle.admission_session.specs.Leaves.{with_guest}
use Rattle.admission_session.specs.Answers.{IsAdmitted}
use Rattle.placement.specs.declared.fault.PlaceFault.{PlaceFault}
use Rattle.placement.specs.declared.fault.PlaceFault.TheVariants.{Refused, BadGuest, Unplaced, NoMemory}
use Rattle.placement.specs.Placement.{IsPlaced}
use Rattle.placement.specs.Answers.{AreRefused, IsBadGuest, IsNoLeaf, IsNoneWith, PlaceFails, StopsAt, guest_at}
use Rattle.script_file.specs.declared.guests.GuestFault.{GuestFault}
use Rattle.script_file.specs.Guests.{SpellsGuests, IsGuestFault}
use Rattle.system_file.specs.Printed.{printed}
use Rattle.system_file.specs.SystemFile.{system_of}
use Rattle.rt_report.specs.declared.fault.FileFault.TheVariants.{BadGuest as BadRow}
use Rattle.rt_report.specs.Fault.{fault_text}
use Rattle.rt_report.specs.Place.{unplaced_text}
use Rattle.rt_report.specs.Refusal.{refusal_text}
use Rattle.command_frame.specs.declared.status.Status.{Status}
use Rattle.command_frame.specs.declared.status.Status.TheVariants.{Yes, No, BadFile, NoMemory as NoRoom}
use Rattle.command_frame.specs.CommandSpec.{CommandSpec, IsVerdict}
use Rattle.command_frame.specs.Answer.{Contents, Saying}
use Rattle.command_frame.specs.Attempt.{Attempt, OnAttempt}
use Rattle.command_frame.specs.Budgets.{refusal_status, IsTrulyOverfull}
use Rattle.command_frame.specs.OverFiles.{OnRead, over_pair}
use Rattle.command_frame.specs.SecondFile.{guest_fault, reading_as}
use Rattle.command_frame.specs.TwoFiles.{SpellsSystem}

-- the bytes of the second file spell guests, or have a first fault
abbrev pub guesting : List ℕ → Attempt (List PartView) GuestFault
guesting bytes =
    reading_as guest_fault (SpellsGuests (records_of bytes)) (IsGuestFault (records_of bytes))

-- the guests are placed on the cores of an admitted system, or there is a first fault
pub record IsPlacement (sys : SystemView) (guests : List PartView) (placed : SystemView)
    : Type 0 where
  pub before : IsAdmitted sys
  pub is : IsPlaced sys guests placed
  pub admitted : IsAdmitted placed

pub record IsPlaceFault (sys : SystemView) (guests : List PartView) (fault : PlaceFault)
    : Type 0 where
  pub real : fault ≢ NoMemory
  pub fails : PlaceFails sys guests fault
  pub refused : AreRefused sys guests fault
  pub none : IsNoLeaf sys guests fault

abbrev pub place_status : PlaceFault → Status
place_status (Refused refusal) = refusal_status refusal
place_status (BadGuest i) = BadFile
place_status (Unplaced i) = No
place_status NoMemory = NoRoom

abbrev pub place_fault_text : SystemView → List PartView → PlaceFault → List ℕ
place_fault_text sys guests (Refused refusal) = refusal_text sys refusal
place_fault_text sys guests (BadGuest i) = fault_text (BadRow (row_of i)) 2
place_fault_text sys guests (Unplaced i) = unplaced_text (guest_at guests i).name
place_fault_text sys guests NoMemory = []

abbrev pub placing : SystemView → List PartView → Attempt SystemView PlaceFault
placing sys guests = record {
  Gives = IsPlacement sys guests;
  Refuses = IsPlaceFault sys guests;
  status_of = place_status;
  text_of = place_fault_text sys guests;
}

-- yes: the text is the document of the placed system, and is read back as it
pub record IsSystemText (placed : SystemView) (status : Status) (text : List ℕ) : Type 0 where
  pub is_yes : status ≡ Yes
  pub told : IsDocumentText false (printed placed) text
  pub reads_back : system_of text ≡ Ok placed

-- the answer to a system and guests, and to a system and bytes
abbrev pub PlacesGuests : SystemView → List PartView → Status → List ℕ → Type 0
PlacesGuests sys guests = OnAttempt (placing sys guests) IsSystemText

abbrev pub Places : SystemView → Saying
Places = OnRead (λ sys. guesting) PlacesGuests

-- yes means: the text is read as a system that has the given cores and parts and then the guests,
-- each on the first core on which it fits; budgets admit it, no job is lost on any level in any
-- permitted run, whenever each server begins, nor at any node by itself over any supply of its own
-- kind, and every whole budget below a computed leaf budget must miss
pub record TellsPlaced (sys : SystemView) (guests : List PartView) (text : List ℕ)
    : Type 0 where
  pub placed : SystemView
  pub read : system_of text ≡ Ok placed
  pub is : IsPlaced sys guests placed
  pub budgets : List ℕ
  pub admitted : Admitted placed budgets
  pub no_loss : NoLoss placed budgets
  pub each_node : Keeping placed budgets
  pub tight : IsTight placed budgets

-- no means: the system is refused as it stands, as `admit` says, or the text tells a guest for
-- which there is no core: on each core of the host, the system with the guests before it placed and
-- this one there has a first refusal, and what that says holds (`RefusalHolds`)
pub record IsTrulyRefused (sys : SystemView) : Type 0 where
  pub refusal : Refusal
  pub first : FirstRefusal sys refusal
  pub holds : RefusalHolds sys refusal

pub record TellsUnplaced (sys : SystemView) (guests : List PartView) (text : List ℕ)
    : Type 0 where
  pub guest : ℕ
  pub is_guest : guest < length guests
  pub told : text ≡ unplaced_text (guest_at guests guest).name
  pub now : SystemView
  pub placed : IsPlaced sys (take guest guests) now
  pub refused : (c : ℕ) → c < length sys.cores →
      IsTrulyRefused (with_guest now (guest_at guests guest) c)

-- a refused file means: the text tells the row of a guest that can be no leaf of the system that
-- the guests before it make, each of which has its first fit there; with it that is no system,
-- whatever core it is put on
pub record TellsBadGuest (sys : SystemView) (guests : List PartView) (text : List ℕ)
    : Type 0 where
  pub guest : ℕ
  pub told : text ≡ fault_text (BadRow (row_of guest)) 2
  pub stops : StopsAt sys guests guest IsBadGuest
  pub none : StopsAt sys guests guest IsNoneWith

-- of a wide answer nothing is claimed
abbrev pub MeansOfPlaces : SystemView → List PartView → Status → List ℕ → Type 0
MeansOfPlaces sys guests Yes text = TellsPlaced sys guests text
MeansOfPlaces sys guests No text = IsTrulyOverfull sys text ⊎ TellsUnplaced sys guests text
MeansOfPlaces sys guests BadFile text = TellsBadGuest sys guests text
MeansOfPlaces sys guests _ text = ⊤

abbrev pub PlaceMeans : Contents → Status → List ℕ → Type 0
PlaceMeans contents status text = (sys : SystemView) (guests : List PartView)
    → SpellsSystem contents sys (λ bytes. SpellsGuests (records_of bytes) guests)
    → MeansOfPlaces sys guests status text

-- a guest of the files can be no leaf of the system that those before it make
pub record SpellsBadGuest (contents : Contents) : Type 0 where
  pub sys : SystemView
  pub guests : List PartView
  pub spelled : SpellsSystem contents sys (λ bytes. SpellsGuests (records_of bytes) guests)
  pub guest : ℕ
  pub stops : StopsAt sys guests guest IsBadGuest

-- yes, no or wide, or memory ran out, or a file is refused, where a guest can be no leaf
abbrev pub EndsPlacing : Contents → Status → Type 0
EndsPlacing contents BadFile = SpellsBadGuest contents
EndsPlacing contents status = IsVerdict status

-- what there is to say of the command
abbrev pub the_place : (file guests : List ℕ) → CommandSpec
the_place = over_pair (λ sys. guesting) PlacesGuests PlaceMeans EndsPlacing
