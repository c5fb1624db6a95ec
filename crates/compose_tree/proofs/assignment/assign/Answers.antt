use Rattle.std.proofs.Common.{◌∙◌}
use Rattle.slot_model.proofs.HandedOn.{err_is}
use Rattle.tree_model.proofs.InRange.{assigned_is_plan}
use Rattle.tree_model.proofs.Unique.{one_assignment}
use Rattle.compose_tree.proofs.Settling.{assigned_back, not_unassigned}
use Rattle.compose_tree.proofs.assignment.assign.Goals as goal

pub returns-clause-plan : goal.returns-clause-plan
returns-clause-plan c =
    assigned_back c.args.sys.now c.in_ok-budgets.budgets.len c.assign_parts.new.budgets c.in_ok-budgets.budgets.items
    (c.assign_parts.auto.budgets ∙ c.deref_mut.ensures.len) c.in_ok-assign_parts.ensures.assigned

pub returns-clause-complete : goal.returns-clause-complete
returns-clause-complete c =
    λ budgets assigned. one_assignment c.args.sys.now c.rooms.ensures.system _ budgets (returns-clause-plan c) assigned

pub returns-clause-in_period : goal.returns-clause-in_period
returns-clause-in_period c = assigned_is_plan c.args.sys.now c.rooms.ensures.system _ (returns-clause-plan c)

pub returns-clause-as_composed : goal.returns-clause-as_composed
returns-clause-as_composed c =
    λ budgets admitted. one_assignment c.args.sys.now c.rooms.ensures.system _ budgets (returns-clause-plan c)
    admitted.assigned

pub returns-in_err-assign_parts-clause-complete : goal.returns-in_err-assign_parts-clause-complete
returns-in_err-assign_parts-clause-complete c =
    let step = c.from_residual-in_err-assign_parts in
    λ budgets assigned. rw (err_is step.result _ step.ensures.1)
    (not_unassigned c.args.sys.now c.rooms.ensures.system c.in_err-assign_parts.field-0.0
    c.in_err-assign_parts.ensures.refusal budgets assigned)

pub returns-in_err-assign_parts-clause-as_composed : goal.returns-in_err-assign_parts-clause-as_composed
returns-in_err-assign_parts-clause-as_composed c =
    let step = c.from_residual-in_err-assign_parts in
    λ budgets admitted. rw (err_is step.result _ step.ensures.1)
    (not_unassigned c.args.sys.now c.rooms.ensures.system c.in_err-assign_parts.field-0.0
    c.in_err-assign_parts.ensures.refusal budgets admitted.assigned)
