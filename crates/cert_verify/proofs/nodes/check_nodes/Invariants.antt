use Rattle.cert_verify.specs.inner.Steps.{AreProved}
use Rattle.cert_verify.proofs.nodes.check_nodes.Given as goal

abbrev pub invariant-loop-node : goal.invariant-loop-node
invariant-loop-node l = AreProved l.sys l.budgets l.nodes l.node-index
