use Rattle.halting.proofs.Halting.{runs_as_admitted, keeps_deadlines, stays_in_time}
use Rattle.halting.proofs.keeps_where_spared.Goals as goal

pub returns : goal.returns
returns c = record { as_admitted = runs_as_admitted; keeps = keeps_deadlines; in_time = stays_in_time }
