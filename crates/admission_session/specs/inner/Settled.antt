-- What is answered once the edited system is composed.
use Rattle.std.specs.Prelude.{◌≡◌}
use Rattle.tree_model.specs.View.{SystemView}
use Rattle.tree_model.specs.Admission.{FirstRefusal}
use Rattle.admission_session.specs.declared.answer.Answer.{Answer}
use Rattle.admission_session.specs.declared.answer.Answer.TheVariants.{Done, Refused, Denied}
use Rattle.admission_session.specs.Answers.{IsAdmitted}

-- what is answered once the edited system is composed
abbrev pub IsSettled : SystemView → SystemView → Answer → SystemView → Type 0
IsSettled sys edited Done now = (now ≡ edited) × IsAdmitted edited
IsSettled sys edited (Refused fault) now = ⊥
IsSettled sys edited (Denied denied refusal) now =
    (now ≡ sys) × (denied ≡ edited) × FirstRefusal edited refusal
