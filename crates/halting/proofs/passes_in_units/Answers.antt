use Rattle.halting.proofs.Units.{passes_in_units, constrained_in_units}
use Rattle.halting.proofs.passes_in_units.Goals as goal

pub returns : goal.returns
returns c = record { passes = passes_in_units; constrained = constrained_in_units }
