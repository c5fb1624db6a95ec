use Rattle.tree_model.proofs.Lists.{first_here, first_later, none_both}
use Rattle.slot_model.proofs.HandedOn.{handed_on}
use Rattle.system_file.proofs.parts.placed_at.Goals as goal

pub returns-in_err-parent-clause-fault : goal.returns-in_err-parent-clause-fault
returns-in_err-parent-clause-fault c =
    let step = c.from_residual in
    handed_on step.result _ _ step.ensures.1 (λ cores before later names own put known.
    first_here _ _ _ (c.in_err-parent.ensures.fault cores before later names own put known))

pub returns-in_err-sched-clause-fault : goal.returns-in_err-sched-clause-fault
returns-in_err-sched-clause-fault c =
    let step = c.from_residual-in_err-sched in
    handed_on step.result _ _ step.ensures.1 (λ cores before later names own put known.
    first_later _ _ _ (c.in_ok-parent.ensures.ok cores before later names own put known).0
    (first_here _ _ _ c.in_err-sched.ensures.fault))

pub returns-in_err-served-clause-fault : goal.returns-in_err-served-clause-fault
returns-in_err-served-clause-fault c =
    let step = c.from_residual-in_err-served in
    handed_on step.result _ _ step.ensures.1 (λ cores before later names own put known.
    first_later _ _ _ (c.in_ok-parent.ensures.ok cores before later names own put known).0
    (first_later _ _ _ c.in_ok-sched.ensures.ok.0 c.in_err-served.ensures.fault))

pub returns-clause-parent : goal.returns-clause-parent
returns-clause-parent c = λ cores before later names own put known.
    let parent = c.in_ok-parent.ensures.ok cores before later names own put known in (
      none_both _ _ parent.0 (none_both _ _ c.in_ok-sched.ensures.ok.0 c.in_ok-served.ensures.ok.0),
      parent.1,
    )

pub returns-clause-sched : goal.returns-clause-sched
returns-clause-sched c = c.in_ok-sched.ensures.ok.1

pub returns-clause-served : goal.returns-clause-served
returns-clause-served c = (
  c.in_ok-served.ensures.ok.1,
  c.in_ok-served.ensures.ok.2,
  c.in_ok-served.ensures.ok.3,
  c.in_ok-served.ensures.ok.4,
)

pub returns-clause-range : goal.returns-clause-range
returns-clause-range c = c.in_ok-served.ensures.range
