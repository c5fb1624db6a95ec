use Rattle.std.proofs.Common.{◌≡◌, map, take}
use Rattle.tree_model.specs.CertificateView.{NodeView}
use Rattle.cert_verify.proofs.nodes.write_budgets.Given as goal

abbrev pub invariant-loop-q : goal.invariant-loop-q
invariant-loop-q l = take l.q l.into ≡ map (λ (node : NodeView). node.budget) (take l.q l.nodes)
