use Rattle.std.proofs.Common.{◌≡◌, ℕ, List, ◌+◌, length, ◌∙◌, subst, sym}
use Rattle.tree_model.specs.Admission.{Admitted}
use Rattle.tree_model.specs.Tree.{NoLoss}
use Rattle.compose_tree.specs.Truth.{IsTight}
use Rattle.cert_verify.specs.Proves.{budgets_of}
use Rattle.certificate.specs.inner.Steps.{AreMade}
use Rattle.certificate.proofs.Shows.{certificate_proves}
use Rattle.certificate.proofs.Nodes.{all_made, same_budgets}
use Rattle.certificate.proofs.making.certify.Goals as goal
use Rattle.certificate.proofs.making.certify.Goals.{In-Ok}

-- the nodes are made under the budgets that were composed
made : (c : In-Ok)
    → AreMade c.args.sys.now c.in_ok-plan.plan c.in-Ok.nodes.items
    (length c.args.sys.now.parts + length c.args.sys.now.cores)
made c =
    subst (λ (bs : List ℕ). AreMade c.args.sys.now bs c.in-Ok.nodes.items
    (length c.args.sys.now.parts + length c.args.sys.now.cores)) c.budgets.ensures c.in-Ok.ensures

-- so those are the budgets of the certificate
same : (c : In-Ok) → budgets_of c.args.sys.now c.in-Ok.nodes.items ≡ c.in_ok-plan.plan
same c =
    same_budgets c.args.sys.now c.in_ok-plan.plan c.in_ok-plan.ensures.plan.assigned.one_each c.in-Ok.nodes.items
    (made c)

pub returns-in-Ok-clause-made : goal.returns-in-Ok-clause-made
returns-in-Ok-clause-made c =
    all_made c.args.sys.now c.in_ok-plan.plan c.in_ok-plan.ensures.plan.assigned.one_each c.in-Ok.nodes.items
    (made (goal.at.returns-in-Ok-clause-made c).In-Ok)

pub returns-in-Ok-clause-proves : goal.returns-in-Ok-clause-proves
returns-in-Ok-clause-proves c = certificate_proves c.args.sys.now c.in-Ok.nodes.items (returns-in-Ok-clause-made c)

pub returns-in-Ok-clause-admitted : goal.returns-in-Ok-clause-admitted
returns-in-Ok-clause-admitted c =
    subst (λ (bs : List ℕ). Admitted c.args.sys.now bs)
    (sym (same (goal.at.returns-in-Ok-clause-admitted c).In-Ok)) c.in_ok-plan.ensures.plan

pub returns-in-Ok-clause-no_loss : goal.returns-in-Ok-clause-no_loss
returns-in-Ok-clause-no_loss c =
    subst (λ (bs : List ℕ). NoLoss c.args.sys.now bs)
    (sym (same (goal.at.returns-in-Ok-clause-no_loss c).In-Ok)) c.in_ok-plan.ensures.no_loss

pub returns-in-Ok-clause-tight : goal.returns-in-Ok-clause-tight
returns-in-Ok-clause-tight c =
    subst (λ (bs : List ℕ). IsTight c.args.sys.now bs)
    (sym (same (goal.at.returns-in-Ok-clause-tight c).In-Ok)) c.in_ok-plan.ensures.tight

pub returns-in-Ok-clause-complete : goal.returns-in-Ok-clause-complete
returns-in-Ok-clause-complete c = λ budgets admitted.
    same (goal.at.returns-in-Ok-clause-complete c).In-Ok ∙ c.in_ok-plan.ensures.complete budgets admitted
