use Rattle.std.proofs.Common.{◌≡◌, ℕ, ◌<◌, List, length, get_or, ◌∙◌, subst, inl, inr, arith}
use Rattle.std.proofs.lemmas.Bool.{cases_lt}
use Rattle.std.proofs.lemmas.List.{get_or_default}
use Rattle.slot_model.proofs.HandedOn.{err_is}
use Rattle.tree_model.specs.CertificateView.{NodeView}
use Rattle.cert_verify.specs.Proves.{no_node, node_at, NodeProves}
use Rattle.cert_verify.specs.Flaws.{FirstNode, NodeFails}
use Rattle.cert_verify.proofs.nodes.check_nodes.Goals as goal

-- the node that is read at a place
read_there : (nodes : List NodeView) (k : ℕ) (node : NodeView) → node ≡ get_or nodes k node → k < length nodes
    → node ≡ node_at nodes k
read_there nodes k node is l = is ∙ get_or_default nodes k node no_node l

pub returns-in_err-check_node-clause-flaw : goal.returns-in_err-check_node-clause-flaw
returns-in_err-check_node-clause-flaw c =
    let here = read_there c.args.nodes.now c.loop-node.node-index c.node-item.result c.node-item.is (omega arith) in
    let first : FirstNode c.args.nodes.now (NodeProves c.args.sys.now c.args.budgets.now)
    (NodeFails c.args.sys.now c.args.budgets.now c.in_err-check_node.field-0.0)
    = record {
      k = c.loop-node.node-index;
      is_node = omega arith;
      before = c.loop-node.invariant;
      bad =
          subst (λ (node : NodeView). NodeFails c.args.sys.now c.args.budgets.now c.in_err-check_node.field-0.0 node)
          here c.in_err-check_node.ensures;
    } in
    rw (err_is c.from_residual.result _ c.from_residual.ensures.1) first

pub loop-node-preserved : goal.loop-node-preserved
loop-node-preserved c = λ k l. elim (cases_lt k c.loop-node.node-index) [
  | inl sooner ↦ c.loop-node.invariant k sooner
  | inr last ↦
      let here = read_there c.args.nodes.now c.loop-node.node-index c.node-item.result c.node-item.is (omega arith) in
      let same : c.loop-node.node-index ≡ k = omega arith in
      subst (λ (j : ℕ). NodeProves c.args.sys.now c.args.budgets.now (node_at c.args.nodes.now j)) same
      (subst (λ (node : NodeView). NodeProves c.args.sys.now c.args.budgets.now node) here
      c.in_ok-check_node.ensures)
]
