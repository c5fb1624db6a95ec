-- What `session` answers: one thing, its statuses, and what it means.
use Rattle.std.proofs.Common.{◌≡◌, ℕ, zero, suc, List, [], ◌∷◌, length, Some, Ok, refl, sym, ◌∙◌, ap, arith, subst, inl, inr}
use Rattle.std.proofs.lemmas.Option.{slice_get_within}
use Rattle.csv_rows.specs.Reading.{records_of}
use Rattle.tree_model.specs.declared.plan.Refusal.{Refusal}
use Rattle.tree_model.specs.View.{SystemView}
use Rattle.tree_model.specs.System.{IsSystem}
use Rattle.tree_model.specs.Admission.{Admitted}
use Rattle.tree_model.proofs.Unique.{one_admission}
use Rattle.compose_tree.specs.Truth.{RefusalHolds}
use Rattle.compose_tree.proofs.Refusals.{refusal_holds}
use Rattle.compose_tree.proofs.Sound.{admitted_keeping, admitted_no_loss, admitted_tight}
use Rattle.admission_session.specs.declared.answer.Answer.{Answer}
use Rattle.admission_session.specs.declared.answer.Answer.TheVariants.{Refused, Denied}
use Rattle.admission_session.specs.declared.edit.Edit.{Edit}
use Rattle.admission_session.specs.declared.fault.EditFault.{EditFault}
use Rattle.admission_session.specs.Edits.{MakesSystem}
use Rattle.admission_session.specs.Answers.{IsAnswered}
use Rattle.admission_session.specs.History.{AreAnswered}
use Rattle.admission_session.proofs.History.{SameHistory, answered_system, history_system, one_history}
use Rattle.admission_session.proofs.NoFault.{never_refused}
use Rattle.script_file.specs.Script.{script_rows}
use Rattle.script_file.proofs.OneScript.{one_script, no_script_fault, one_script_fault}
use Rattle.rt_report.specs.Session.{session_text}
use Rattle.command_frame.specs.declared.status.Status.{Status}
use Rattle.command_frame.specs.declared.status.Status.TheVariants.{Yes, No, Wide}
use Rattle.command_frame.specs.Answer.{Contents, IsOne}
use Rattle.command_frame.specs.Budgets.{composing}
use Rattle.command_frame.specs.CommandSpec.{IsVerdict}
use Rattle.host_commands.specs.Session.{the_session, scripting, IsSession, EditsSystem, Edits, MeansOfEdits, SessionMeans, DenialsHold, MakesNoSystem, RefusedMakeNone}
use Rattle.command_frame.specs.Steps.{IsJudged}
use Rattle.command_frame.specs.TwoFiles.{OnTwoFiles}
use Rattle.command_frame.proofs.Attempt.{IsDecided, one_attempt, statuses_attempt}
use Rattle.command_frame.proofs.Budgets.{composing_decided, refused_status, refused_means}
use Rattle.command_frame.proofs.CommandLaws.{CommandLaws}
use Rattle.command_frame.proofs.ReadSecond.{JudgesRead, is_spelled_system, read_laws, said_of_read}

pub scripting_decided : (bytes : List ℕ) → IsDecided (scripting bytes)
scripting_decided bytes = record {
  one_value = one_script (records_of bytes);
  never_both = no_script_fault (records_of bytes);
  one_refusal = one_script_fault (script_rows (records_of bytes));
}

-- one answer
same_plan : (last another : SystemView) → IsSystem last → last ≡ another → (a b : List ℕ) → Admitted last a
    → Admitted another b → a ≡ b
same_plan last another is same a b x y =
    one_admission last is a b x (subst (λ (s : SystemView). Admitted s b) (sym same) y)

one_session : (sys : SystemView) → IsSystem sys → (edits : List Edit) → IsOne (IsSession sys edits)
one_session sys is edits = λ s t x y p q.
    let same : SameHistory p.answers q.answers p.last q.last
    = one_history sys is edits p.answers q.answers p.last q.last p.answered q.answered in
    let plan : p.budgets ≡ q.budgets
    = same_plan p.last q.last (history_system sys edits p.answers p.last is p.answered) same.last_is p.budgets
    q.budgets p.admitted q.admitted in (
      p.is_yes ∙ sym q.is_yes,
      p.told
          ∙ (ap (λ (given : List Answer). session_text given p.last p.budgets) same.answers_are
          ∙ (ap (λ (l : SystemView). session_text q.answers l p.budgets) same.last_is
          ∙ ap (λ (b : List ℕ). session_text q.answers q.last b) plan)) ∙ sym q.told,
    )

-- its statuses
edits_status : (P : Status → Type 0) → P Yes → P No → P Wide
    → (sys : SystemView) (edits : List Edit) (status : Status) (text : List ℕ) → EditsSystem sys edits status text
    → P status
edits_status P at_yes at_no at_wide sys edits status text h =
    statuses_attempt P (composing sys) (λ budgets. IsSession sys edits) status text (refused_status P at_no at_wide sys)
    (λ budgets session. subst P (sym session.is_yes) at_yes) h

-- what a denied row is told holds
denial_holds : (sys : SystemView) (edit : Edit) (answer : Answer) (now : SystemView) → IsAnswered sys edit answer now
    → (edited : SystemView) (refusal : Refusal) → answer ≡ Denied edited refusal → RefusalHolds edited refusal
denial_holds sys edit answer now h edited refusal e =
    let denied : IsAnswered sys edit (Denied edited refusal) now
    = subst (λ (a : Answer). IsAnswered sys edit a now) e h in
    refusal_holds edited denied.1.system refusal denied.2

same_answer : (a b : Answer) → Some a ≡ Some b → a ≡ b
same_answer a b e = cc

denials_hold : (sys : SystemView) (edits : List Edit) (answers : List Answer) (last : SystemView) → IsSystem sys
    → AreAnswered sys edits answers last → DenialsHold answers
denials_hold sys [] answers last is h k edited refusal e =
    absurd (omega (arith, slice_get_within answers k (Denied edited refusal) e, ap (λ (z : List Answer). length z) h.0))
denials_hold sys (edit ∷ edits) [] last is h k edited refusal e = absurd h
denials_hold sys (edit ∷ edits) (answer ∷ answers) last is h zero edited refusal e =
    denial_holds sys edit answer h.0 h.1 edited refusal (same_answer answer (Denied edited refusal) e)
denials_hold sys (edit ∷ edits) (answer ∷ answers) last is h (suc k) edited refusal e =
    denials_hold h.0 edits answers last (answered_system sys edit answer h.0 is h.1) h.2 k edited refusal e

-- a refused row makes no system
refused_none : (sys : SystemView) → IsSystem sys → (edit : Edit) (fault : EditFault) (now : SystemView)
    → IsAnswered sys edit (Refused fault) now → MakesSystem sys edit → ⊥
refused_none sys is edit fault now h makes =
    never_refused {X = Unit {0}} sys is edit (Ok (Refused fault)) now h fault makes refl

refused_make_none : (sys : SystemView) (edits : List Edit) (answers : List Answer) (last : SystemView) → IsSystem sys
    → AreAnswered sys edits answers last → RefusedMakeNone sys edits answers
refused_make_none sys [] answers last is h k fault e =
    absurd (omega (arith, slice_get_within answers k (Refused fault) e, ap (λ (z : List Answer). length z) h.0))
refused_make_none sys (edit ∷ edits) [] last is h k fault e = absurd h
refused_make_none sys (edit ∷ edits) (answer ∷ answers) last is h zero fault e = record {
  edit = edit;
  is_row = refl;
  now = sys;
  before = (refl, refl);
  none =
      refused_none sys is edit fault h.0
      (subst (λ (a : Answer). IsAnswered sys edit a h.0) (same_answer answer (Refused fault) e) h.1);
}
refused_make_none sys (edit ∷ edits) (answer ∷ answers) last is h (suc k) fault e =
    let later : MakesNoSystem h.0 edits answers k
    = refused_make_none h.0 edits answers last (answered_system sys edit answer h.0 is h.1) h.2 k fault e in
    record {
      edit = later.edit;
      is_row = later.is_row;
      now = later.now;
      before = (h.0, h.1, later.before);
      none = later.none;
    }

-- what it means
edits_means : (sys : SystemView) → IsSystem sys → (edits : List Edit) (status : Status) (text : List ℕ)
    → EditsSystem sys edits status text → MeansOfEdits sys edits status text
edits_means sys is edits status text h = elim h [
  | inl a ↦ (let left : IsSystem a.said.last = history_system sys edits a.said.answers a.said.last is a.said.answered in
      subst (λ (s : Status). MeansOfEdits sys edits s text) (sym a.said.is_yes)
      (record {
        answers = a.said.answers;
        last = a.said.last;
        answered = a.said.answered;
        denials = denials_hold sys edits a.said.answers a.said.last is a.said.answered;
        refused = refused_make_none sys edits a.said.answers a.said.last is a.said.answered;
        budgets = a.said.budgets;
        told = a.said.told;
        admitted = a.said.admitted;
        no_loss = admitted_no_loss a.said.last left a.said.budgets a.said.admitted;
        each_node = admitted_keeping a.said.last left a.said.budgets a.said.admitted;
        tight = admitted_tight a.said.last left a.said.budgets a.said.admitted;
      }))
  | inr a ↦
      refused_means (λ z. MeansOfEdits z edits) sys is (λ t over. over) (λ t. tt) a.refusal a.refuses status text
      a.status_is a.told
]

edits_read : JudgesRead (λ sys. scripting) EditsSystem
edits_read = record {
  decided = λ sys. scripting_decided;
  bad_file = λ sys bytes fault. refl;
  one =
      λ sys is edits. one_attempt (composing sys) (λ budgets. IsSession sys edits) (composing_decided sys is)
      (λ budgets admitted. one_session sys is edits);
  judged = λ sys edits. edits_status IsJudged tt tt tt sys edits;
}

session_means : (contents : Contents) (status : Status) (text : List ℕ) → OnTwoFiles contents Edits status text
    → SessionMeans contents status text
session_means contents status text h = λ sys edits spelled.
    edits_means sys (is_spelled_system contents sys _ spelled) edits status text
    (said_of_read (λ sys. scripting) EditsSystem edits_read contents sys edits status text spelled h)

pub session_laws : (file script : List ℕ) → CommandLaws (the_session file script)
session_laws file script =
    read_laws file script (λ sys. scripting) EditsSystem SessionMeans (λ contents. IsVerdict) edits_read (record {
      means = session_means;
      verdict = λ contents sys spelled edits. edits_status IsVerdict tt tt tt sys edits;
      no_memory = λ contents. tt;
    })
