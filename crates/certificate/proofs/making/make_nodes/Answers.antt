use Rattle.std.proofs.Common.{ℕ, ◌≡◌, ◌≤◌, List, ◌+◌, length, subst, sym, ap, arith}
use Rattle.tree_model.specs.declared.pinned_core.Core.{Core as CoreView}
use Rattle.tree_model.specs.CertificateView.{NodeView}
use Rattle.tree_model.specs.View.{PartView}
use Rattle.certificate.specs.inner.Steps.{AreMade}
use Rattle.certificate.proofs.Nodes.{part_more, core_more}
use Rattle.certificate.proofs.making.make_nodes.Goals as goal

pub loop-q-preserved : goal.loop-q-preserved
loop-q-preserved c =
    subst (λ (nodes : List NodeView). AreMade c.args.sys.now c.args.budgets.now nodes (c.loop-q.q + 1))
    (sym c.in_ok-push.ensures.items)
    (part_more c.args.sys.now c.args.budgets.now c.loop-q.nodes.items c.loop-q.q c.in_ok-make_node.field-0
    c.loop-q.invariant (omega (arith, ap (λ (ps : List PartView). length ps) c.parts-parts.ensures.parts))
    c.in_ok-make_node.ensures.made c.in_ok-make_node.ensures.budget)

pub loop-c-preserved : goal.loop-c-preserved
loop-c-preserved c =
    subst (λ (nodes : List NodeView). AreMade c.args.sys.now c.args.budgets.now nodes
    (length c.args.sys.now.parts + (c.loop-c.c + 1))) (sym c.in_ok-push-2.ensures.items)
    (core_more c.args.sys.now c.args.budgets.now c.loop-c.nodes.items c.loop-c.c c.in_ok-make_node-2.field-0
    c.loop-c.invariant c.in_ok-make_node-2.ensures.made)

pub loop-c-init : goal.loop-c-init
loop-c-init c =
    let parts = ap (λ (ps : List PartView). length ps) c.parts-parts.ensures.parts in
    let at_end : c.loop-q.q ≤ length c.parts-parts.result.now = c.loop-q.auto.q-end in
    let all : c.loop-q.q ≡ length c.args.sys.now.parts + 0 = omega (arith, parts, at_end, c.loop-q-test.false) in
    subst (λ (n : ℕ). AreMade c.args.sys.now c.args.budgets.now c.loop-q.nodes.items n) all c.loop-q.invariant

pub returns : goal.returns
returns c =
    let cores = ap (λ (cs : List CoreView). length cs) c.cores-2.ensures.cores in
    let at_end : c.loop-c.c ≤ length c.cores-2.result.now = c.loop-c.auto.c-end in
    let all : length c.args.sys.now.parts + c.loop-c.c ≡ length c.args.sys.now.parts + length c.args.sys.now.cores
    = omega (arith, cores, at_end, c.loop-c-test.false) in
    subst (λ (n : ℕ). AreMade c.args.sys.now c.args.budgets.now c.loop-c.nodes.items n) all c.loop-c.invariant
