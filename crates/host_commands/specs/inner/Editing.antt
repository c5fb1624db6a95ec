-- What is kept of the rows that a session has answered.
use Rattle.std.specs.Prelude.{◌≡◌, ◌++◌, ℕ, List, string_bytes}
use Rattle.csv_rows.specs.Reading.{records_of}
use Rattle.tree_model.specs.View.{SystemView}
use Rattle.tree_model.specs.Admission.{Admitted}
use Rattle.admission_session.specs.declared.answer.Answer.{Answer}
use Rattle.admission_session.specs.declared.edit.Edit.{Edit}
use Rattle.admission_session.specs.History.{AreAnswered}
use Rattle.script_file.specs.Script.{SpellsScript, edits_of}
use Rattle.rt_report.specs.Session.{answer_lines, session_text}
use Rattle.host_commands.specs.declared.editing.Editing.{Editing}

-- what the first value is once it has answered these rows, each with its line
pub record HasEdited (start now : Editing) (rows : List (List (List ℕ))) : Type 0 where
  pub answers : List Answer
  pub answered : AreAnswered start.session (edits_of rows) answers now.session
  pub told : string_bytes now.text ≡ string_bytes start.text ++ answer_lines 1 answers

-- the bytes spell edits, and the text tells the answers to them, and the plan of the system that
-- they leave
pub record IsToldSession (sys : SystemView) (bytes text : List ℕ) : Type 0 where
  pub edits : List Edit
  pub spelled : SpellsScript (records_of bytes) edits
  pub answers : List Answer
  pub last : SystemView
  pub answered : AreAnswered sys edits answers last
  pub budgets : List ℕ
  pub admitted : Admitted last budgets
  pub told : text ≡ session_text answers last budgets
