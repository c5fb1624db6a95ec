-- `session FILE SCRIPT`: what it answers, and what its yes and no mean to who runs the host.
use Rattle.std.specs.Prelude.{◌≡◌, ℕ, List, take, slice_get, Some, ⊤}
use Rattle.csv_rows.specs.Reading.{records_of}
use Rattle.tree_model.specs.declared.plan.Refusal.{Refusal}
use Rattle.tree_model.specs.View.{SystemView}
use Rattle.tree_model.specs.Tree.{NoLoss}
use Rattle.tree_model.specs.Admission.{Admitted}
use Rattle.compose_tree.specs.Keeping.{Keeping}
use Rattle.compose_tree.specs.Truth.{IsTight, RefusalHolds}
use Rattle.admission_session.specs.declared.answer.Answer.{Answer}
use Rattle.admission_session.specs.declared.answer.Answer.TheVariants.{Refused, Denied}
use Rattle.admission_session.specs.declared.edit.Edit.{Edit}
use Rattle.admission_session.specs.declared.fault.EditFault.{EditFault}
use Rattle.admission_session.specs.Edits.{MakesSystem}
use Rattle.admission_session.specs.History.{AreAnswered}
use Rattle.script_file.specs.declared.fault.ScriptFault.{ScriptFault}
use Rattle.script_file.specs.Script.{SpellsScript, IsScriptFault, script_rows}
use Rattle.rt_report.specs.declared.fault.FileFault.TheVariants.{Script}
use Rattle.rt_report.specs.Session.{session_text}
use Rattle.command_frame.specs.declared.status.Status.{Status}
use Rattle.command_frame.specs.declared.status.Status.TheVariants.{Yes, No}
use Rattle.command_frame.specs.CommandSpec.{CommandSpec, IsVerdict}
use Rattle.command_frame.specs.Answer.{Contents, Saying}
use Rattle.command_frame.specs.Attempt.{Attempt}
use Rattle.command_frame.specs.Budgets.{OnAdmitted, IsTrulyOverfull}
use Rattle.command_frame.specs.OverFiles.{OnRead, over_pair}
use Rattle.command_frame.specs.SecondFile.{reading_as}
use Rattle.command_frame.specs.TwoFiles.{SpellsSystem}

-- the bytes of the second file spell edits, or have a first fault
abbrev pub scripting : List ℕ → Attempt (List Edit) ScriptFault
scripting bytes = reading_as Script (SpellsScript (records_of bytes))
    (IsScriptFault (script_rows (records_of bytes)))

-- the text tells the answer to each edit, and the plan of the system that they leave
pub record IsSession (sys : SystemView) (edits : List Edit) (status : Status) (text : List ℕ)
    : Type 0 where
  pub is_yes : status ≡ Yes
  pub answers : List Answer
  pub last : SystemView
  pub answered : AreAnswered sys edits answers last
  pub budgets : List ℕ
  pub admitted : Admitted last budgets
  pub told : text ≡ session_text answers last budgets

-- the answer to a system and rows, and to a system and bytes
abbrev pub EditsSystem : SystemView → List Edit → Status → List ℕ → Type 0
EditsSystem sys edits = OnAdmitted sys (λ budgets. IsSession sys edits)

abbrev pub Edits : SystemView → Saying
Edits = OnRead (λ sys. scripting) EditsSystem

-- of each row that is denied, what its refusal says of the system as that row edits it holds
-- (`RefusalHolds`, which says nothing of a node that is too wide to be judged)
abbrev pub DenialsHold : List Answer → Type 0
DenialsHold answers =
    (k : ℕ) (edited : SystemView) (refusal : Refusal) →
    slice_get answers k ≡ Some (Denied edited refusal) → RefusalHolds edited refusal

-- the edit of row k makes no system of the one that the rows before it leave
pub record MakesNoSystem (sys : SystemView) (edits : List Edit) (answers : List Answer) (k : ℕ)
    : Type 0 where
  pub edit : Edit
  pub is_row : slice_get edits k ≡ Some edit
  pub now : SystemView
  pub before : AreAnswered sys (take k edits) (take k answers) now
  pub none : MakesSystem now edit → ⊥

-- so it is of each row that is refused
abbrev pub RefusedMakeNone : SystemView → List Edit → List Answer → Type 0
RefusedMakeNone sys edits answers =
    (k : ℕ) (fault : EditFault) → slice_get answers k ≡ Some (Refused fault) →
    MakesNoSystem sys edits answers k

-- yes means: each row was answered as the rules of an edit say, what a denied row is told holds, a
-- refused row would make no system, and of the system that the rows leave, the budgets that the
-- text tells admit it, no job is lost on any level in any permitted run, whenever each server
-- begins, nor at any node by itself over any supply of its own kind, and every whole budget below a
-- computed leaf budget must miss
pub record LeavesDeadlines (sys : SystemView) (edits : List Edit) (text : List ℕ)
    : Type 0 where
  pub answers : List Answer
  pub last : SystemView
  pub answered : AreAnswered sys edits answers last
  pub denials : DenialsHold answers
  pub refused : RefusedMakeNone sys edits answers
  pub budgets : List ℕ
  pub told : text ≡ session_text answers last budgets
  pub admitted : Admitted last budgets
  pub no_loss : NoLoss last budgets
  pub each_node : Keeping last budgets
  pub tight : IsTight last budgets

-- no means what that of `admit` does; of a wide answer nothing is claimed
abbrev pub MeansOfEdits : SystemView → List Edit → Status → List ℕ → Type 0
MeansOfEdits sys edits Yes text = LeavesDeadlines sys edits text
MeansOfEdits sys edits No text = IsTrulyOverfull sys text
MeansOfEdits sys edits _ text = ⊤

abbrev pub SessionMeans : Contents → Status → List ℕ → Type 0
SessionMeans contents status text = (sys : SystemView) (edits : List Edit)
    → SpellsSystem contents sys (λ bytes. SpellsScript (records_of bytes) edits)
    → MeansOfEdits sys edits status text

-- what there is to say of the command
abbrev pub the_session : (file script : List ℕ) → CommandSpec
the_session = over_pair (λ sys. scripting) EditsSystem SessionMeans (λ contents. IsVerdict)
