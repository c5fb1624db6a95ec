use Rattle.halting.proofs.Stolen.{times_add_up, agrees_with_audit, is_supply_where_spared}
use Rattle.halting.proofs.counts_stolen_time.Goals as goal

pub returns : goal.returns
returns c = record { adds_up = times_add_up; judged = agrees_with_audit; supplies = is_supply_where_spared }
