use Rattle.std.proofs.Common.{◌+◌, length}
use Rattle.certificate.specs.inner.Steps.{AreMade}
use Rattle.certificate.proofs.making.make_nodes.Given as goal

abbrev pub invariant-loop-q : goal.invariant-loop-q
invariant-loop-q l = AreMade l.sys l.budgets l.nodes.items l.q

abbrev pub invariant-loop-c : goal.invariant-loop-c
invariant-loop-c l = AreMade l.sys l.budgets l.nodes.items (length l.sys.parts + l.c)
