use Rattle.admission_session.proofs.OneAnswer.{one_given}
use Rattle.admission_session.proofs.NoFault.{never_refused}
use Rattle.admission_session.proofs.session.Session.apply.Goals as goal

pub returns-clause-one : goal.returns-clause-one
returns-clause-one c =
    one_given c.args.self.now c.answer_edit.ensures.known c.args.edit c.answer_edit.result c.answer_edit.new.self
    c.answer_edit.ensures.answer

pub returns-clause-only : goal.returns-clause-only
returns-clause-only c =
    never_refused c.args.self.now c.answer_edit.ensures.known c.args.edit c.answer_edit.result
    c.answer_edit.new.self c.answer_edit.ensures.answer
