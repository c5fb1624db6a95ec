use Rattle.host_commands.proofs.Laws.Place.{placing_refused}
use Rattle.host_commands.proofs.place.placed.Goals as goal

pub returns-in_ok-refuse_system-in-Err-Refused-clause-refused :
    goal.returns-in_ok-refuse_system-in-Err-Refused-clause-refused
returns-in_ok-refuse_system-in-Err-Refused-clause-refused c =
    placing_refused c.args.sys.now c.args.guests.now _ _ c.in_ok-refuse_system-in-Err-Refused.ensures.refused
