use Rattle.std.proofs.Common.{false, slice_index_or}
use Rattle.guest_sched.proofs.Spelled.{Spells}
use Rattle.guest_sched.proofs.patterns.windows_of.Given as goal

-- the windows of the places so far
abbrev pub invariant-loop-x : goal.invariant-loop-x
invariant-loop-x l = Spells (λ y. slice_index_or l.given y false) l.x l.windows.items
