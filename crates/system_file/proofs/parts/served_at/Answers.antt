use Rattle.std.proofs.Common.{refl}
use Rattle.tree_model.proofs.Lists.{first_here, first_later, none_both}
use Rattle.slot_model.proofs.HandedOn.{handed_on}
use Rattle.system_file.proofs.parts.served_at.Goals as goal

pub returns-in_err-period-clause-fault : goal.returns-in_err-period-clause-fault
returns-in_err-period-clause-fault c =
    let step = c.from_residual in
    handed_on step.result _ _ step.ensures.1 (first_here _ _ _ c.in_err-period.ensures.fault)

pub returns-in_err-budget-clause-fault : goal.returns-in_err-budget-clause-fault
returns-in_err-budget-clause-fault c =
    let step = c.from_residual-in_err-budget in
    let period_ok = rw c.in_ok-period.ensures.ok.1 at c.in_ok-period.ensures.ok.0 in
    handed_on step.result _ _ step.ensures.1 (rw c.in_ok-period.ensures.ok.1
    (first_later _ _ _ period_ok (first_here _ _ _ c.in_err-budget.ensures.fault)))

pub returns-in_err-extra-clause-fault : goal.returns-in_err-extra-clause-fault
returns-in_err-extra-clause-fault c =
    let step = c.from_residual-in_err-extra in
    let period_ok = rw c.in_ok-period.ensures.ok.1 at c.in_ok-period.ensures.ok.0 in
    handed_on step.result _ _ step.ensures.1 (rw c.in_ok-period.ensures.ok.1
    (first_later _ _ _ period_ok (first_later _ _ _ c.in_ok-budget.ensures.ok.0
    (first_here _ _ _ c.in_err-extra.ensures.fault))))

pub returns-in_err-tasks-clause-fault : goal.returns-in_err-tasks-clause-fault
returns-in_err-tasks-clause-fault c =
    let step = c.from_residual-in_err-tasks in
    let period_ok = rw c.in_ok-period.ensures.ok.1 at c.in_ok-period.ensures.ok.0 in
    handed_on step.result _ _ step.ensures.1 (rw c.in_ok-period.ensures.ok.1
    (first_later _ _ _ period_ok (first_later _ _ _ c.in_ok-budget.ensures.ok.0
    (first_later _ _ _ c.in_ok-extra.ensures.ok.0 c.in_err-tasks.ensures.fault))))

pub returns-clause-ok : goal.returns-clause-ok
returns-clause-ok c =
    let period_ok = rw c.in_ok-period.ensures.ok.1 at c.in_ok-period.ensures.ok.0 in (
      rw c.in_ok-period.ensures.ok.1
          (none_both _ _ period_ok
          (none_both _ _ c.in_ok-budget.ensures.ok.0
          (none_both _ _ c.in_ok-extra.ensures.ok.0 c.in_ok-tasks.ensures.ok.0))),
      rw c.in_ok-period.ensures.ok.1 refl,
      c.in_ok-budget.ensures.ok.1,
      c.in_ok-extra.ensures.ok.1,
      c.in_ok-tasks.ensures.ok.1,
    )
