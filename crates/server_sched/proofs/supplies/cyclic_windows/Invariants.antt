use Rattle.std.proofs.Common.{◌-◌}
use Rattle.server_sched.proofs.Patterned.{CyclicTo}
use Rattle.server_sched.proofs.supplies.cyclic_windows.Given as goal

-- the windows of the periods so far
abbrev pub invariant-loop-from : goal.invariant-loop-from
invariant-loop-from l = CyclicTo l.period l.first l.budget l.slots l.from l.windows.items

abbrev pub decreases-loop-from : goal.decreases-loop-from
decreases-loop-from l = l.slots - l.from
