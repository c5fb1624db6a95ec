-- Edits are answered in one way, and one edit more.
use Rattle.std.proofs.Common.{◌≡◌, suc, List, [], ◌∷◌, ◌++◌, length, refl, sym, ◌∙◌, ap, subst}
use Rattle.tree_model.specs.View.{SystemView}
use Rattle.tree_model.specs.System.{IsSystem}
use Rattle.admission_session.specs.declared.answer.Answer.{Answer}
use Rattle.admission_session.specs.declared.answer.Answer.TheVariants.{Done, Refused, Denied}
use Rattle.admission_session.specs.declared.edit.Edit.{Edit}
use Rattle.admission_session.specs.Answers.{IsAdmitted, IsAnswered}
use Rattle.admission_session.specs.History.{AreAnswered}
use Rattle.admission_session.proofs.OneAnswer.{answers_one}

-- what an edit leaves is a system, and is admitted where the system before was
pub answered_system : (sys : SystemView) (edit : Edit) (answer : Answer) (now : SystemView) → IsSystem sys
    → IsAnswered sys edit answer now → IsSystem now
answered_system sys edit Done now is h = h.0.system
answered_system sys edit (Refused fault) now is h = subst IsSystem (sym h.0) is
answered_system sys edit (Denied denied refusal) now is h = subst IsSystem (sym h.0) is

answered_admitted : (sys : SystemView) (edit : Edit) (answer : Answer) (now : SystemView) → IsAdmitted sys
    → IsAnswered sys edit answer now → IsAdmitted now
answered_admitted sys edit Done now is h = h.1
answered_admitted sys edit (Refused fault) now is h = subst IsAdmitted (sym h.0) is
answered_admitted sys edit (Denied denied refusal) now is h = subst IsAdmitted (sym h.0) is

pub history_system : (sys : SystemView) (edits : List Edit) (answers : List Answer) (last : SystemView) → IsSystem sys
    → AreAnswered sys edits answers last → IsSystem last
history_system sys [] answers last is h = subst IsSystem (sym h.1) is
history_system sys (edit ∷ edits) [] last is h = absurd h
history_system sys (edit ∷ edits) (answer ∷ answers) last is h =
    history_system h.0 edits answers last (answered_system sys edit answer h.0 is h.1) h.2

pub history_admitted : (sys : SystemView) (edits : List Edit) (answers : List Answer) (last : SystemView)
    → IsAdmitted sys → AreAnswered sys edits answers last → IsAdmitted last
history_admitted sys [] answers last is h = subst IsAdmitted (sym h.1) is
history_admitted sys (edit ∷ edits) [] last is h = absurd h
history_admitted sys (edit ∷ edits) (answer ∷ answers) last is h =
    history_admitted h.0 edits answers last (answered_admitted sys edit answer h.0 is h.1) h.2

-- one answer an edit
pub one_each : (sys : SystemView) (edits : List Edit) (answers : List Answer) (last : SystemView)
    → AreAnswered sys edits answers last → length answers ≡ length edits
one_each sys [] answers last h = ap (λ (z : List Answer). length z) h.0
one_each sys (edit ∷ edits) [] last h = absurd h
one_each sys (edit ∷ edits) (answer ∷ answers) last h = ap suc (one_each h.0 edits answers last h.2)

-- one edit more
pub history_more : (sys : SystemView) (edits : List Edit) (answers : List Answer) (last : SystemView) (edit : Edit)
    (answer : Answer) (now : SystemView) → AreAnswered sys edits answers last → IsAnswered last edit answer now
    → AreAnswered sys (edits ++ edit ∷ []) (answers ++ answer ∷ []) now
history_more sys [] answers last edit answer now h next =
    subst (λ (z : List Answer). AreAnswered sys (edit ∷ []) (z ++ answer ∷ []) now) (sym h.0)
    (now, subst (λ (s : SystemView). IsAnswered s edit answer now) h.1 next, (refl, refl))
history_more sys (first ∷ edits) [] last edit answer now h next = absurd h
history_more sys (first ∷ edits) (a ∷ answers) last edit answer now h next =
    (h.0, h.1, history_more h.0 edits answers last edit answer now h.2 next)

-- there is one list of answers, and one system that is left
pub record SameHistory (answers others : List Answer) (last another : SystemView) : Type 0 where
  pub answers_are : answers ≡ others
  pub last_is : last ≡ another

pub one_history : (sys : SystemView) → IsSystem sys
    → (edits : List Edit) (answers others : List Answer) (last another : SystemView)
    → AreAnswered sys edits answers last → AreAnswered sys edits others another
    → SameHistory answers others last another
one_history sys is [] answers others last another h k = record { answers_are = h.0 ∙ sym k.0; last_is = h.1 ∙ sym k.1 }
one_history sys is (edit ∷ edits) [] others last another h k = absurd h
one_history sys is (edit ∷ edits) (a ∷ answers) [] last another h k = absurd k
one_history sys is (edit ∷ edits) (a ∷ answers) (b ∷ others) last another h k =
    let first : (a ≡ b) × (h.0 ≡ k.0) = answers_one sys is edit a h.0 h.1 b k.0 k.1 in
    let later : SameHistory answers others last another
    = one_history h.0 (answered_system sys edit a h.0 is h.1) edits answers others last another h.2
    (subst (λ (s : SystemView). AreAnswered s edits others another) (sym first.1) k.2) in
    record {
      answers_are = ap (λ (z : Answer). z ∷ answers) first.0 ∙ ap (λ (z : List Answer). b ∷ z) later.answers_are;
      last_is = later.last_is;
    }
