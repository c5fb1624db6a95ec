use Rattle.std.proofs.Common.{map}
use Rattle.server_sched.proofs.Patterned.{PatternTo}
use Rattle.server_sched.proofs.supplies.core_supplies.Given as goal

-- the windows of the cores so far
abbrev pub invariant-loop-core : goal.invariant-loop-core
invariant-loop-core l = PatternTo l.cores l.pattern l.slots l.core-index (map (λ g. g.items) l.given.items)
