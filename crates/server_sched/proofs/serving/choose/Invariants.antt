use Rattle.server_sched.proofs.Choosing.{ChosenTo}
use Rattle.server_sched.proofs.serving.choose.Given as goal

abbrev pub invariant-loop-i : goal.invariant-loop-i
invariant-loop-i l = ChosenTo l.servers l.i l.best
