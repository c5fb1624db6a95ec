use Rattle.compose_tree.specs.inner.Steps.{CoresPassTo}
use Rattle.compose_tree.proofs.budgets.test_cores.Given as goal

abbrev pub invariant-loop-c : goal.invariant-loop-c
invariant-loop-c l = CoresPassTo l.sys l.budgets l.c
