use Rattle.std.proofs.Common.{◌≡◌, Option, Some, subst, sym, rules}
use Rattle.std.specs.Prelude.{option_map}
use Rattle.command_line.specs.Commands.{Command, bulk, version, command_told}
use Rattle.command_line.specs.Steps.{IsSaidTo}
use Rattle.command_frame.specs.Steps.{ending_of, IfAnswered}
use Rattle.command_line.proofs.commands.answer.Goals as goal

pub returns-in-Some-Bulk-clause-answer : goal.returns-in-Some-Bulk-clause-answer
returns-in-Some-Bulk-clause-answer g c =
    let told : option_map command_told c.args.command ≡ Some (bulk c.in-Some-Bulk.guests.number) = search rules in
    let files = g.S.Store.files c.args.store.now in
    rw (c.ended-in-Some-Bulk.ensures) (subst (λ (k : Option Command). IfAnswered (ending_of c.bulk.result)
    (λ a. IsSaidTo k files a.status a.text.items)) (sym told) (c.bulk.ensures.answer files))

pub returns-in-Some-Version-clause-answer : goal.returns-in-Some-Version-clause-answer
returns-in-Some-Version-clause-answer g c =
    let told : option_map command_told c.args.command ≡ Some version = search rules in
    let files = g.S.Store.files c.args.store.now in
    rw (c.ended-in-Some-Version.ensures) (subst (λ (k : Option Command). IfAnswered (ending_of c.version.result)
    (λ a. IsSaidTo k files a.status a.text.items)) (sym told) (c.version.ensures.answer files))
