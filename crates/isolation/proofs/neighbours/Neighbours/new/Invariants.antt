use Rattle.isolation.specs.inner.Neighbours.{AreNeighboursFrom}
use Rattle.isolation.proofs.neighbours.Neighbours.new.Given as goal

-- the parts behind v are put in
abbrev pub invariant-loop-v : goal.invariant-loop-v
invariant-loop-v l = AreNeighboursFrom l.sys l.neighbours l.v
