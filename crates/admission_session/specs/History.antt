-- The answers to edits of a system one after another.
use Rattle.std.specs.Prelude.{◌≡◌, List, [], ◌∷◌}
use Rattle.tree_model.specs.View.{SystemView}
use Rattle.admission_session.specs.declared.answer.Answer.{Answer}
use Rattle.admission_session.specs.declared.edit.Edit.{Edit}
use Rattle.admission_session.specs.Answers.{IsAnswered}

-- one answer an edit, each to the system that those before it left, and the system that all leave
abbrev pub AreAnswered : SystemView → List Edit → List Answer → SystemView → Type 0
AreAnswered sys [] answers last = (answers ≡ []) × (last ≡ sys)
AreAnswered sys (edit ∷ edits) [] last = ⊥
AreAnswered sys (edit ∷ edits) (answer ∷ answers) last =
    (now : SystemView) × IsAnswered sys edit answer now × AreAnswered now edits answers last
