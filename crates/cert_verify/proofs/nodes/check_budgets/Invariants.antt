use Rattle.cert_verify.specs.inner.Steps.{HaveBudgets}
use Rattle.cert_verify.proofs.nodes.check_budgets.Given as goal

abbrev pub invariant-loop-node : goal.invariant-loop-node
invariant-loop-node l = HaveBudgets l.sys l.nodes l.node-index
