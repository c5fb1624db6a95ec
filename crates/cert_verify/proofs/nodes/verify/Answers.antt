use Rattle.cert_verify.specs.Flaws.{FirstFlaw}
use Rattle.tree_model.specs.CertificateView.{NodeView, CertificateView}
use Rattle.std.proofs.Common.{◌≡◌, ℕ, List, length, take, ◌∙◌, sym, subst, rules, IfOk, IfErr, ap, Err}
use Rattle.std.proofs.lemmas.Result.{IfOk-weaker, IfErr-weaker}
use Rattle.slot_model.proofs.HandedOn.{err_is}
use Rattle.cert_verify.specs.Proves.{AreNodes, budgets_of, Proves}
use Rattle.cert_verify.specs.inner.Steps.{BudgetsFit}
use Rattle.cert_verify.proofs.Admits.{budgets_fit, written_budgets, proves_admits}
use Rattle.cert_verify.proofs.Failing.{all_proved, one_fails, exactly}
use Rattle.cert_verify.proofs.OneFlaw.{one_flaw, flaw_answered}
use Rattle.cert_verify.proofs.nodes.verify.Goals as goal

pub check_nodes-requires-clause-fit : goal.check_nodes-requires-clause-fit
check_nodes-requires-clause-fit c =
    let are : AreNodes c.args.sys.now c.as_slice-nodes.result.now = search rules in
    subst (λ (budgets : List ℕ). BudgetsFit c.args.sys.now budgets) (sym
    (written_budgets c.args.sys.now c.as_slice-nodes.result.now are c.parts-count.result.now
    c.parts-count.ensures.parts c.write_budgets.new.into c.write_budgets.ensures))
    (budgets_fit c.args.sys.now c.parts-count.ensures.system c.as_slice-nodes.result.now are
    c.in_ok-check_budgets.ensures.have)

-- the nodes that are looked at are those of the certificate, and their budgets are written
nodes_are : (c : goal.After-check_nodes) → c.as_slice-nodes.result.now ≡ c.args.c.now.nodes
nodes_are c = c.as_slice-nodes.ensures.value ∙ ap (λ (v : CertificateView). v.nodes) c.c.view_is

are_nodes : (c : goal.After-check_nodes) → AreNodes c.args.sys.now c.as_slice-nodes.result.now
are_nodes c = search rules

written : (c : goal.After-check_nodes)
    → take (length c.parts-count.result.now) c.write_budgets.new.into
    ≡ budgets_of c.args.sys.now c.as_slice-nodes.result.now
written c =
    written_budgets c.args.sys.now c.as_slice-nodes.result.now (are_nodes c) c.parts-count.result.now
    c.parts-count.ensures.parts c.write_budgets.new.into c.write_budgets.ensures

flawed : (c : goal.After-check_nodes)
    → IfErr c.check_nodes.result (λ flaw. FirstFlaw c.args.sys.now c.args.c.now.nodes flaw)
flawed c =
    IfErr-weaker c.check_nodes.result _ _
    (λ flaw h. one_fails c.args.sys.now c.as_slice-nodes.result.now c.args.c.now.nodes (nodes_are c) (are_nodes c)
    c.in_ok-check_budgets.ensures.have _ (written c) flaw h)
    c.check_nodes.ensures.flaw

proved : (c : goal.After-check_nodes) → IfOk c.check_nodes.result (λ _. Proves c.args.sys.now c.args.c.now.nodes)
proved c =
    IfOk-weaker c.check_nodes.result _ _
    (λ done h. all_proved c.args.sys.now c.as_slice-nodes.result.now c.args.c.now.nodes (nodes_are c) (are_nodes c)
    c.in_ok-check_budgets.ensures.have _ (written c) h)
    c.check_nodes.ensures.proved

pub returns-clause-flaw : goal.returns-clause-flaw
returns-clause-flaw c = flawed c

pub returns-clause-exact : goal.returns-clause-exact
returns-clause-exact c =
    exactly c.args.sys.now c.args.c.now.nodes c.check_nodes.result (proved c) (flawed c)

pub returns-clause-admitted : goal.returns-clause-admitted
returns-clause-admitted c =
    IfOk-weaker c.check_nodes.result _ _
    (λ done h. proves_admits c.args.sys.now c.parts-count.ensures.system c.args.c.now.nodes h) (proved c)

pub returns-clause-only : goal.returns-clause-only
returns-clause-only c =
    flaw_answered c.args.sys.now c.args.c.now.nodes c.check_nodes.result (proved c) (flawed c)

pub returns-in_err-check_budgets-clause-only : goal.returns-in_err-check_budgets-clause-only
returns-in_err-check_budgets-clause-only c =
    let found : FirstFlaw c.args.sys.now c.args.c.now.nodes c.in_err-check_budgets.field-0.0
    = subst (λ (ns : List NodeView). FirstFlaw c.args.sys.now ns c.in_err-check_budgets.field-0.0)
    (c.as_slice-nodes.ensures.value ∙ ap (λ (v : CertificateView). v.nodes) c.c.view_is)
    c.in_err-check_budgets.ensures.flaw in
    λ flaw h. rw (err_is c.from_residual.result _ c.from_residual.ensures.1)
    (ap Err (one_flaw c.args.sys.now c.args.c.now.nodes c.in_err-check_budgets.field-0.0 flaw found h))
