use Rattle.std.proofs.Common.{List, subst}
use Rattle.std.proofs.lemmas.Result.{IfOk-at_ok}
use Rattle.slot_model.proofs.HandedOn.{err_is}
use Rattle.tree_model.specs.View.{PartView}
use Rattle.command_frame.specs.Attempt.{IsRefused}
use Rattle.command_frame.specs.SecondFile.{guest_fault}
use Rattle.command_frame.specs.Steps.{IfAnswered}
use Rattle.command_frame.proofs.Attempt.{given_stops, refusal_stops}
use Rattle.command_frame.proofs.SecondFile.{fault_said, unless_script_memory}
use Rattle.host_commands.specs.Place.{IsSystemText, PlacesGuests, guesting, placing}
use Rattle.host_commands.proofs.place.PlacerJudgeTwo.judge.Goals as goal

pub returns-in_err-guests-clause-answer : goal.returns-in_err-guests-clause-answer
returns-in_err-guests-clause-answer c =
    rw (err_is c.from_residual.result _ c.from_residual.ensures.1)
    (fault_said guest_fault _ _ c.read_guests.result
    (unless_script_memory _ c.read_guests.result c.read_guests.ensures.fault) (PlacesGuests c.args.sys.now)
    c.in_err-guests.field-0.0 c.in_err-guests.ensures.refused)

-- guests that are spelled and not placed
pub returns-in_err-placed-clause-answer : goal.returns-in_err-placed-clause-answer
returns-in_err-placed-clause-answer c =
    let sys = c.args.sys.now in
    let guests = c.in_ok-guests.guests.items in
    let stop = c.in_err-placed.field-0.0 in
    let refused : IfAnswered stop (λ a. IsRefused (placing sys guests) a.status a.text.items)
    = subst (λ (gs : List PartView). IfAnswered stop (λ a. IsRefused (placing sys gs) a.status a.text.items))
    c.deref.ensures.value c.in_err-placed.ensures.refused in
    rw (err_is c.from_residual-in_err-placed.result _ c.from_residual-in_err-placed.ensures.1)
    (given_stops (guesting c.args.bytes.now) (PlacesGuests sys) guests
    (IfOk-at_ok _ c.in_ok-guests.ensures.value c.read_guests.ensures.spelt) stop
    (refusal_stops (placing sys guests) IsSystemText stop refused))
