use Rattle.std.proofs.Common.{◌≡◌, ℕ, List, Result, Ok, subst}
use Rattle.std.specs.Prelude.{IfOk}
use Rattle.slot_model.proofs.HandedOn.{err_is}
use Rattle.tree_model.specs.View.{SystemView}
use Rattle.auditor.specs.declared.verdict.Tallied.{Tallied}
use Rattle.auditor.specs.Finding.{IsFindingOf}
use Rattle.auditor.specs.Tally.{IsTalliedOf}
use Rattle.auditor.specs.declared.steal.Stolen.{Stolen}
use Rattle.auditor.specs.Steal.{IsStolenOf}
use Rattle.auditor.specs.declared.pieces.Audit.{Audit}
use Rattle.trace_commands.specs.declared.audit.TraceCommand.{TraceCommand}
use Rattle.trace_commands.specs.declared.audit.TraceCommand.TheVariants.{Audit as ToAudit, Tally as ToTally, Steal as ToSteal}
use Rattle.trace_commands.specs.Told.{counted_by}
use Rattle.trace_commands.specs.inner.Walk.{IsAuditUnder}
use Rattle.trace_commands.proofs.Walked.{found_said, refused_said, steal_of_part, stolen_said, tallied_said, told_of_part, unspelled}
use Rattle.trace_commands.proofs.audit.answer_of.Goals as goal
use Rattle.trace_commands.proofs.audit.answer_of.Goals.{After-status_of-in-Tally, After-steal_status_of}

-- what is said of a result holds of its value
of_value : {Value Fault : Type 0} (Said : Value → Type 0) (made : Result Value Fault) (value : Value)
    → made ≡ Ok value → IfOk made Said → Said value
of_value Said made value is said = subst (λ r. IfOk r Said) is said

-- the time that a command counts is that of its arm
under_arm : (command arm : TraceCommand) (sys : SystemView) (bytes budgets : List ℕ) (audit : Audit) → command ≡ arm
    → IsAuditUnder (counted_by command) sys bytes budgets audit
    → IsAuditUnder (counted_by arm) sys bytes budgets audit
under_arm command arm sys bytes budgets audit is under =
    subst (λ (k : TraceCommand). IsAuditUnder (counted_by k) sys bytes budgets audit) is under

abbrev Steals : SystemView → List ℕ → List ℕ → Stolen → Type 0
Steals sys budgets bytes t = IsStolenOf sys budgets bytes t.finding t.vcpus.items

abbrev Tallies : SystemView → List ℕ → List ℕ → Tallied → Type 0
Tallies sys budgets bytes t = IsTalliedOf sys budgets bytes t.finding t.vcpus.items

pub returns-in_err-finding-in-Audit-clause-answer : goal.returns-in_err-finding-in-Audit-clause-answer
returns-in_err-finding-in-Audit-clause-answer c = λ bytes under.
    rw (err_is c.from_residual.result _ c.from_residual.ensures.1)
    (refused_said c.args.sys.now bytes c.args.command c.in_err-finding-in-Audit.field-0.0
    (unspelled c.args.sys.now bytes c.finish.result
    (c.finish.ensures.fault c.args.sys.now c.args.plan.now bytes
    (under_arm c.args.command ToAudit c.args.sys.now bytes c.args.plan.now c.args.audit
    c.in-Audit.is under).audited) c.in_err-finding-in-Audit.field-0.0
    c.in_err-finding-in-Audit.ensures.refused))

pub audit_text-requires-clause-part : goal.audit_text-requires-clause-part
audit_text-requires-clause-part c =
    let is = of_value (IsFindingOf c.args.sys.now c.args.plan.now c.requires.0) c.finish.result
    c.in_ok-finding-in-Audit.finding c.in_ok-finding-in-Audit.ensures.value
    (c.finish.ensures.found c.args.sys.now c.args.plan.now c.requires.0
    (under_arm c.args.command ToAudit c.args.sys.now c.requires.0 c.args.plan.now c.args.audit
    c.in-Audit.is c.requires.1).audited) in
    told_of_part c.args.sys.now c.args.plan.now is.events c.in_ok-finding-in-Audit.finding is.found

pub returns-in_ok-audit_text-in-Audit-clause-answer : goal.returns-in_ok-audit_text-in-Audit-clause-answer
returns-in_ok-audit_text-in-Audit-clause-answer c = λ bytes under.
    rw c.in-Audit.is
    (found_said c.args.sys.now bytes c.args.plan.now _ c.in_ok-finding-in-Audit.finding _ _
    (under_arm c.args.command ToAudit c.args.sys.now bytes c.args.plan.now c.args.audit c.in-Audit.is under)
    (of_value (IsFindingOf c.args.sys.now c.args.plan.now bytes) c.finish.result c.in_ok-finding-in-Audit.finding
    c.in_ok-finding-in-Audit.ensures.value
    (c.finish.ensures.found c.args.sys.now c.args.plan.now bytes
    (under_arm c.args.command ToAudit c.args.sys.now bytes c.args.plan.now c.args.audit
    c.in-Audit.is under).audited)) c.status_of.ensures
    c.in_ok-audit_text-in-Audit.ensures)

pub returns-in_err-tallied-in-Tally-clause-answer : goal.returns-in_err-tallied-in-Tally-clause-answer
returns-in_err-tallied-in-Tally-clause-answer c = λ bytes under.
    rw (err_is c.from_residual-in_err-tallied-in-Tally.result _ c.from_residual-in_err-tallied-in-Tally.ensures.1)
    (refused_said c.args.sys.now bytes c.args.command c.in_err-tallied-in-Tally.field-0.0
    (unspelled c.args.sys.now bytes c.finish_tallied.result
    (c.finish_tallied.ensures.fault c.args.sys.now c.args.plan.now bytes
    (under_arm c.args.command ToTally c.args.sys.now bytes c.args.plan.now c.args.audit
    c.in-Tally.is under).audited)
    c.in_err-tallied-in-Tally.field-0.0 c.in_err-tallied-in-Tally.ensures.refused))

tallied_of : (c : After-status_of-in-Tally)
    → Tallies c.args.sys.now c.args.plan.now c.requires.0 c.in_ok-tallied-in-Tally.tallied
tallied_of c =
    of_value (Tallies c.args.sys.now c.args.plan.now c.requires.0) c.finish_tallied.result
    c.in_ok-tallied-in-Tally.tallied c.in_ok-tallied-in-Tally.ensures.value
    (c.finish_tallied.ensures.tallied c.args.sys.now c.args.plan.now c.requires.0
    (under_arm c.args.command ToTally c.args.sys.now c.requires.0 c.args.plan.now c.args.audit
    c.in-Tally.is c.requires.1).audited)

pub tally_text-requires-clause-part : goal.tally_text-requires-clause-part
tally_text-requires-clause-part c =
    let is = tallied_of (goal.at.tally_text-requires-clause-part c).After-status_of-in-Tally in
    told_of_part c.args.sys.now c.args.plan.now is.events c.in_ok-tallied-in-Tally.tallied.finding is.found

pub tally_text-requires-clause-each_part : goal.tally_text-requires-clause-each_part
tally_text-requires-clause-each_part c =
    (tallied_of (goal.at.tally_text-requires-clause-each_part c).After-status_of-in-Tally).counted.each_part

pub returns-in_ok-tally_text-in-Tally-clause-answer : goal.returns-in_ok-tally_text-in-Tally-clause-answer
returns-in_ok-tally_text-in-Tally-clause-answer c = λ bytes under.
    rw c.in-Tally.is
    (tallied_said c.args.sys.now bytes c.args.plan.now _ c.in_ok-tallied-in-Tally.tallied.finding _ _ _
    (under_arm c.args.command ToTally c.args.sys.now bytes c.args.plan.now c.args.audit c.in-Tally.is under)
    (of_value (Tallies c.args.sys.now c.args.plan.now bytes)
    c.finish_tallied.result c.in_ok-tallied-in-Tally.tallied c.in_ok-tallied-in-Tally.ensures.value
    (c.finish_tallied.ensures.tallied c.args.sys.now c.args.plan.now bytes
    (under_arm c.args.command ToTally c.args.sys.now bytes c.args.plan.now c.args.audit
    c.in-Tally.is under).audited))
    c.status_of-in-Tally.ensures c.in_ok-tally_text-in-Tally.ensures)

pub returns-in_err-stolen-in-Steal-clause-answer : goal.returns-in_err-stolen-in-Steal-clause-answer
returns-in_err-stolen-in-Steal-clause-answer c = λ bytes under.
    rw (err_is c.from_residual-in_err-stolen-in-Steal.result _ c.from_residual-in_err-stolen-in-Steal.ensures.1)
    (refused_said c.args.sys.now bytes c.args.command c.in_err-stolen-in-Steal.field-0.0
    (unspelled c.args.sys.now bytes c.finish_stolen.result
    (c.finish_stolen.ensures.fault c.args.sys.now c.args.plan.now bytes
    (under_arm c.args.command ToSteal c.args.sys.now bytes c.args.plan.now c.args.audit
    c.in-Steal.is under).audited)
    c.in_err-stolen-in-Steal.field-0.0 c.in_err-stolen-in-Steal.ensures.refused))

stolen_of : (c : After-steal_status_of)
    → Steals c.args.sys.now c.args.plan.now c.requires.0 c.in_ok-stolen-in-Steal.stolen
stolen_of c =
    of_value (Steals c.args.sys.now c.args.plan.now c.requires.0) c.finish_stolen.result
    c.in_ok-stolen-in-Steal.stolen c.in_ok-stolen-in-Steal.ensures.value
    (c.finish_stolen.ensures.stolen c.args.sys.now c.args.plan.now c.requires.0
    (under_arm c.args.command ToSteal c.args.sys.now c.requires.0 c.args.plan.now c.args.audit
    c.in-Steal.is c.requires.1).audited)

pub steal_text-requires-clause-part : goal.steal_text-requires-clause-part
steal_text-requires-clause-part c =
    let is = stolen_of (goal.at.steal_text-requires-clause-part c).After-steal_status_of in
    steal_of_part c.args.sys.now c.args.plan.now is.events c.in_ok-stolen-in-Steal.stolen.finding is.found

pub steal_text-requires-clause-each_part : goal.steal_text-requires-clause-each_part
steal_text-requires-clause-each_part c =
    (stolen_of (goal.at.steal_text-requires-clause-each_part c).After-steal_status_of).counted.each_part

pub returns-in_ok-steal_text-in-Steal-clause-answer : goal.returns-in_ok-steal_text-in-Steal-clause-answer
returns-in_ok-steal_text-in-Steal-clause-answer c = λ bytes under.
    rw c.in-Steal.is
    (stolen_said c.args.sys.now bytes c.args.plan.now _ c.in_ok-stolen-in-Steal.stolen.finding _ _ _
    (under_arm c.args.command ToSteal c.args.sys.now bytes c.args.plan.now c.args.audit c.in-Steal.is under)
    (of_value (Steals c.args.sys.now c.args.plan.now bytes)
    c.finish_stolen.result c.in_ok-stolen-in-Steal.stolen c.in_ok-stolen-in-Steal.ensures.value
    (c.finish_stolen.ensures.stolen c.args.sys.now c.args.plan.now bytes
    (under_arm c.args.command ToSteal c.args.sys.now bytes c.args.plan.now c.args.audit
    c.in-Steal.is under).audited))
    c.steal_status_of.ensures c.in_ok-steal_text-in-Steal.ensures)
