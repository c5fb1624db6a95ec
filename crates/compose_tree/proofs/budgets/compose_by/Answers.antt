use Rattle.std.proofs.Common.{◌≡◌, ℕ, List, ◌++◌, length, take, drop, sym, ◌∙◌, subst}
use Rattle.tree_model.specs.View.{SystemView}
use Rattle.tree_model.specs.Admission.{Assigned, Admitted}
use Rattle.tree_model.proofs.InRange.{assigned_is_plan}
use Rattle.compose_tree.specs.Steps.{PartsPassFrom}
use Rattle.compose_tree.specs.inner.Steps.{CoresPassTo}
use Rattle.compose_tree.proofs.Settling.{written_back, assigned_back, settled_admits}
use Rattle.compose_tree.proofs.budgets.compose_by.Goals as goal

admits : (sys : SystemView) (n : ℕ) (written before read : List ℕ) → length written ≡ n → Assigned sys written
    → PartsPassFrom sys written 0 → read ≡ take n (written ++ drop (length written) before)
    → CoresPassTo sys read (length sys.cores) → Admitted sys (take n (written ++ drop (length written) before))
admits sys n written before read e assigned parts is cores =
    settled_admits sys (take n (written ++ drop (length written) before))
    (assigned_back sys n written before e assigned)
    (subst (λ (bs : List ℕ). PartsPassFrom sys bs 0) (sym (written_back n written before e)) parts)
    (subst (λ (bs : List ℕ). CoresPassTo sys bs (length sys.cores)) is cores)

pub returns-clause-plan : goal.returns-clause-plan
returns-clause-plan c =
    admits c.args.sys.now c.in_ok-budgets.budgets.len c.settle_parts.new.budgets c.in_ok-budgets.budgets.items
    c.deref.result.now (c.settle_parts.auto.budgets ∙ c.deref_mut.ensures.len) c.in_ok-settle_parts.ensures.assigned
    c.in_ok-settle_parts.ensures.pass c.deref.ensures.value c.in_ok-test_cores.ensures.pass

pub returns-clause-in_period : goal.returns-clause-in_period
returns-clause-in_period c = assigned_is_plan c.args.sys.now c.rooms.ensures.system _ (returns-clause-plan c).assigned
