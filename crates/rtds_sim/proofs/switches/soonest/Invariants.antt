use Rattle.rtds_sim.proofs.Soonest.{SoonestBelow}
use Rattle.rtds_sim.proofs.switches.soonest.Given as goal

-- the first of the least moments so far
abbrev pub invariant-loop-c : goal.invariant-loop-c
invariant-loop-c l = SoonestBelow l.moments l.c l.least l.first
