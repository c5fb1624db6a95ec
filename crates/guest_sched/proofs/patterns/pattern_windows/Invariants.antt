use Rattle.guest_sched.proofs.Spelled.{SpellsToNext, left_from}
use Rattle.guest_sched.proofs.patterns.pattern_windows.Given as goal

-- the windows before the next one
abbrev pub invariant-loop-next : goal.invariant-loop-next
invariant-loop-next g l = SpellsToNext (g.F.Supply.pattern l.supply) l.slots l.windows.items l.next

abbrev pub decreases-loop-next : goal.decreases-loop-next
decreases-loop-next g l = left_from l.slots l.next
