use Rattle.std.proofs.Common.{◌≡◌, List, refl, ap, ◌∙◌}
use Rattle.toml.specs.Data.{table}
use Rattle.toml_items.specs.Item.{entries_view}
use Rattle.tree_model.specs.Lists.{first_of}
use Rattle.tree_model.proofs.Lists.{first_here, first_later, none_both}
use Rattle.slot_model.proofs.HandedOn.{handed_on}
use Rattle.system_file.specs.declared.fault.SystemFault.{SystemFault}
use Rattle.system_file.specs.Faults.{table_faults, task_keys}
use Rattle.system_file.proofs.ListedKeys.{unknown_first}
use Rattle.system_file.proofs.tasks.task_of.Goals as goal
use Rattle.system_file.proofs.tasks.task_of.Goals.{In_ok-check_keys}

-- in a table without an unknown key, the faults are those of its keys
judged : (c : In_ok-check_keys) (at_keys : List SystemFault)
    → table_faults c.args.spot (task_keys c.args.format) at_keys (table (entries_view c.args.table.now)) ≡ at_keys
judged c at_keys = rw (← c.task_keys.ensures, c.in_ok-check_keys.ensures.ok) refl

pub returns-in_err-check_keys-clause-fault : goal.returns-in_err-check_keys-clause-fault
returns-in_err-check_keys-clause-fault c =
    let step = c.from_residual in
    handed_on step.result _ _ step.ensures.1 (λ memory earlier have.
    unknown_first c.args.spot (task_keys c.args.format) (entries_view c.args.table.now) _ _
    (rw c.task_keys.ensures at c.in_err-check_keys.ensures.fault))

pub returns-in_err-name-clause-fault : goal.returns-in_err-name-clause-fault
returns-in_err-name-clause-fault c =
    let step = c.from_residual-in_err-name in
    let at = (goal.at.returns-in_err-name-clause-fault c).In_ok-check_keys in
    handed_on step.result _ _ step.ensures.1 (λ memory earlier have.
    ap first_of (judged at _) ∙ first_here _ _ _ (c.in_err-name.ensures.fault memory earlier have))

pub returns-in_err-task-clause-fault : goal.returns-in_err-task-clause-fault
returns-in_err-task-clause-fault c =
    let step = c.from_residual-in_err-task in
    let at = (goal.at.returns-in_err-task-clause-fault c).In_ok-check_keys in
    handed_on step.result _ _ step.ensures.1 (λ memory earlier have.
    ap first_of (judged at _)
    ∙ first_later _ _ _ (c.in_ok-name.ensures.ok earlier have).0 c.in_err-task.ensures.fault)

pub returns-clause-ok : goal.returns-clause-ok
returns-clause-ok c = λ earlier have.
    let at = (goal.at.returns-clause-ok c).In_ok-check_keys in
    let name = c.in_ok-name.ensures.ok earlier have in (
      judged at _ ∙ none_both _ _ name.0 c.in_ok-task.ensures.ok.0,
      rw (name.1, c.in_ok-task.ensures.ok.1),
      name.2,
    )
