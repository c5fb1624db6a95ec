use Rattle.rtds_queues.proofs.Beginning.{Begins, count_ending}
use Rattle.rtds_queues.proofs.vcpus.Vcpus.begin_periods.Given as goal

abbrev pub invariant-loop-self : goal.invariant-loop-self
invariant-loop-self l = Begins l.at l.initial.self l.self

abbrev pub decreases-loop-self : goal.decreases-loop-self
decreases-loop-self l = count_ending l.at l.self
