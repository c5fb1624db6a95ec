use Rattle.slot_model.proofs.HandedOn.{err_is}
use Rattle.trace_commands.specs.Told.{counted_by}
use Rattle.trace_commands.proofs.Walked.{walked, refused_said}
use Rattle.trace_commands.proofs.audit.TraceCommandJudgePieces.end.Goals as goal

pub returns-in_err-plan-clause-answer : goal.returns-in_err-plan-clause-answer
returns-in_err-plan-clause-answer c = λ bytes taken.
    rw (err_is c.from_residual.result _ c.from_residual.ensures.1)
    (refused_said c.args.sys.now bytes c.args.self.now c.in_err-plan.field-0.0
    (c.in_err-plan.ensures.refused (counted_by c.args.self.now) c.args.sys.now bytes
    (walked (counted_by c.args.self.now) c.args.sys.now bytes c.args.walk taken)))

pub answer_of-requires : goal.answer_of-requires
answer_of-requires c =
    let taken = c.requires.taken in
    let all = walked (counted_by c.args.self.now) c.args.sys.now taken.0 c.args.walk taken.1 in
    (taken.0, c.in_ok-plan.ensures.audited (counted_by c.args.self.now) c.args.sys.now taken.0 all)

pub returns-clause-answer : goal.returns-clause-answer
returns-clause-answer c = λ bytes taken.
    c.answer_of.ensures.answer bytes
    (c.in_ok-plan.ensures.audited (counted_by c.args.self.now) c.args.sys.now bytes
    (walked (counted_by c.args.self.now) c.args.sys.now bytes c.args.walk taken))
