use Rattle.std.proofs.Common.{ℕ, List, sym, ◌∙◌, subst}
use Rattle.std.proofs.lemmas.Result.{IfOk-weaker}
use Rattle.tree_model.specs.Admission.{Admitted}
use Rattle.compose_tree.proofs.Settling.{admits_or_refuses, written_back}
use Rattle.compose_tree.proofs.recomposition.recompose.Goals as goal

pub returns-clause-complete : goal.returns-clause-complete
returns-clause-complete c =
    λ budgets admitted. admits_or_refuses c.args.sys.now c.settle_up.ensures.system c.settle_up.result _ budgets
    (IfOk-weaker c.settle_up.result _ _
    (λ done h.
    subst (λ (b : List ℕ). Admitted c.args.sys.now b)
    (sym (written_back c.plan.inside.budgets.len c.settle_up.new.budgets c.plan.inside.budgets.items
    (c.settle_up.auto.budgets ∙ c.deref_mut.ensures.len))) h)
    c.settle_up.ensures.admitted) c.settle_up.ensures.refusal admitted
