use Rattle.trace_commands.proofs.Walked.{audits_on, checks_on}
use Rattle.trace_commands.proofs.walk.Walker.take.Goals as goal

pub returns-in-Audits : goal.returns-in-Audits
returns-in-Audits c counted sys bytes h =
    audits_on c.take.result counted sys bytes c.args.piece.now _ _ c.take.new.self _ c.in-Audits.is h
    c.take.ensures

pub returns-in-Checks : goal.returns-in-Checks
returns-in-Checks c counted sys bytes h =
    checks_on c.take-in-Checks.result counted sys bytes c.args.piece.now _ c.take-in-Checks.new.self _ _
    c.in-Checks.is h
    c.take-in-Checks.ensures
