-- A session that edits by the rows of a script: one row more, and the whole answer.
use Rattle.std.proofs.Common.{◌≡◌, ℕ, ◌+◌, ◌-◌, Result, Ok, Err, Some, None, List, [], ◌∷◌, ◌++◌, length, codes, refl, sym, ◌∙◌, ap, subst, inl, arith, append-nil, append_assoc, true}
use Rattle.std.specs.Prelude.{OnOk, string_bytes}
use Rattle.std.proofs.lemmas.List.{length-map}
use Rattle.csv_rows.specs.Reading.{records_of}
use Rattle.csv_rows.specs.Rules.{RowsKeep}
use Rattle.tree_model.specs.View.{SystemView}
use Rattle.tree_model.specs.Admission.{Admitted}
use Rattle.admission_session.specs.declared.answer.Answer.{Answer}
use Rattle.admission_session.specs.declared.answer.Answer.TheVariants.{Done, Refused, Denied}
use Rattle.admission_session.specs.declared.edit.Edit.{Edit}
use Rattle.admission_session.specs.Answers.{IsAdmitted, IsAnswered}
use Rattle.admission_session.specs.History.{AreAnswered}
use Rattle.admission_session.proofs.History.{history_more, one_each}
use Rattle.script_file.specs.declared.fault.ScriptFault.{ScriptFault}
use Rattle.script_file.specs.Script.{edit_in, edit_of, edits_of, script_rules, is_script_header}
use Rattle.script_file.proofs.RowsTaking.{behind_header, edit_is, edits_more, keeps}
use Rattle.rt_report.specs.Session.{answer_line, answer_lines, plan_lines, IsToldAnswer}
use Rattle.rt_report.proofs.AnswerLines.{lines_more}
use Rattle.host_commands.specs.declared.editing.Editing.{Editing}
use Rattle.command_frame.specs.declared.status.Status.{Status}
use Rattle.command_frame.specs.declared.status.Status.TheVariants.{Yes}
use Rattle.host_commands.specs.Session.{Edits}
use Rattle.host_commands.specs.inner.Editing.{HasEdited, IsToldSession}
use Rattle.command_frame.proofs.Budgets.{refusal_told}

-- an answer can be told
pub can_tell : (sys : SystemView) (edit : Edit) (answer : Answer) (now : SystemView) → IsAnswered sys edit answer now
    → IsToldAnswer answer
can_tell sys edit Done now h = tt
can_tell sys edit (Refused fault) now h = tt
can_tell sys edit (Denied denied refusal) now h = refusal_told denied refusal h.2

-- a plan has a budget a part
pub one_budget_each : (sys : SystemView) (budgets : List ℕ) → Admitted sys budgets → length budgets ≡ length sys.parts
one_budget_each sys budgets h = h.assigned.one_each

-- before the first row
pub none_edited : (t : Editing) → HasEdited t t []
none_edited t = record { answers = []; answered = (refl, refl); told = sym (append-nil (string_bytes t.text)) }

-- one row more
pub edited_more : (start before after : Editing) (rows : List (List (List ℕ))) (row : List (List ℕ)) (edit : Edit)
    (number : ℕ) → HasEdited start before rows → edit ≡ edit_of row → number ≡ length rows + 1
    → (answer : Answer) × IsAnswered before.session edit answer after.session
    × (string_bytes after.text ≡ string_bytes before.text ++ answer_line number answer)
    → HasEdited start after (rows ++ row ∷ [])
edited_more start before after rows row edit number h is n next =
    let (answer, answered, told) = next in
    record {
      answers = h.answers ++ answer ∷ [];
      answered =
          subst (λ (es : List Edit). AreAnswered start.session es (h.answers ++ answer ∷ []) after.session)
          (sym (edits_more rows row)) (history_more start.session (edits_of rows) h.answers before.session (edit_of row)
          answer after.session h.answered
          (subst (λ (e : Edit). IsAnswered before.session e answer after.session) is answered));
      told =
          told
          ∙ (ap (λ (z : List ℕ). z ++ answer_line number answer) h.told
          ∙ (append_assoc (string_bytes start.text) (answer_lines 1 h.answers) (answer_line number answer)
          ∙ ap (λ (z : List ℕ). string_bytes start.text ++ z) (ap
          (λ (m : ℕ). answer_lines 1 h.answers ++ answer_line m answer) (count h.answers h.answered)
          ∙ sym (lines_more 1 h.answers answer))));
    }
  where
    count : (answers : List Answer) → AreAnswered start.session (edits_of rows) answers before.session
        → number ≡ 1 + length answers
    count answers all =
        omega (arith, n, one_each start.session (edits_of rows) answers before.session all, length-map rows edit_of)

-- a row is answered
pub took_edit : {A : Type 0} (start before after : Editing) (rows : List (List (List ℕ))) (row : List (List ℕ))
    (edit : Edit) (number : ℕ) (result : Result A ScriptFault) → HasEdited start before rows
    → number ≡ length rows + 2 → Some edit ≡ edit_in row
    → OnOk result ((answer : Answer) × IsAnswered before.session edit answer after.session
    × (string_bytes after.text ≡ string_bytes before.text ++ answer_line (number - 1) answer))
    → OnOk result ((script_rules rows row ≡ None) × HasEdited start after (rows ++ row ∷ []))
took_edit start before after rows row edit number (Ok done) has n spelt next = (
  keeps rows row edit spelt,
  edited_more start before after rows row edit (number - 1) has (edit_is row edit spelt) (omega (arith, n)) next,
)
took_edit start before after rows row edit number (Err fault) has n spelt next = tt

-- all rows, and the plan of the system that they leave
pub told_all : (sys : SystemView) (bytes text : List ℕ) (start now : Editing) (header : List (List ℕ))
    → start.session ≡ sys → string_bytes start.text ≡ codes "verdict=yes\n" → is_script_header header ≡ true
    → (read : List (List (List ℕ))) × (records_of bytes ≡ header ∷ read) × RowsKeep script_rules read (length read)
    × HasEdited start now read
    → (budgets : List ℕ) × Admitted now.session budgets
    × (text ≡ string_bytes now.text ++ plan_lines now.session.parts budgets)
    → IsToldSession sys bytes text
told_all sys bytes text start now header same begun is_header all end =
    let (read, is, keep, edited) = all in
    let (budgets, under, written) = end in
    record {
      edits = edits_of read;
      spelled =
          record {
            rows = read;
            header = behind_header (records_of bytes) header read is is_header;
            keep = keep;
            edits_are = refl;
          };
      answers = edited.answers;
      last = now.session;
      answered =
          subst (λ (s : SystemView). AreAnswered s (edits_of read) edited.answers now.session) same edited.answered;
      budgets = budgets;
      admitted = under;
      told =
          written
          ∙ (ap (λ (z : List ℕ). z ++ plan_lines now.session.parts budgets)
          (edited.told ∙ ap (λ (z : List ℕ). z ++ answer_lines 1 edited.answers) begun)
          ∙ append_assoc (codes "verdict=yes\n") (answer_lines 1 edited.answers)
          (plan_lines now.session.parts budgets));
    }

-- so the answer is that to the system and the bytes
pub edits_told : (sys : SystemView) (bytes text : List ℕ) (status : Status) → IsAdmitted sys
    → IsToldSession sys bytes text → status ≡ Yes → Edits sys bytes status text
edits_told sys bytes text status admitted t is_yes =
    inl (record {
      value = t.edits;
      gives = t.spelled;
      said = inl (record {
        value = admitted.0;
        gives = admitted.1;
        said =
            record {
              is_yes = is_yes;
              answers = t.answers;
              last = t.last;
              answered = t.answered;
              budgets = t.budgets;
              admitted = t.admitted;
              told = t.told;
            };
      });
    })
