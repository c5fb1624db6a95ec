use Rattle.std.proofs.Common.{ap, ◌∙◌}
use Rattle.toml_items.specs.Item.{entries_view}
use Rattle.tree_model.specs.Lists.{first_of}
use Rattle.tree_model.proofs.Lists.{first_here, first_later, none_both}
use Rattle.slot_model.proofs.HandedOn.{handed_on}
use Rattle.system_file.specs.declared.fault.Spot.TheVariants.{Top}
use Rattle.system_file.specs.Faults.{top_keys}
use Rattle.system_file.proofs.ListedKeys.{unknown_first, at_listed}
use Rattle.system_file.proofs.read.top_of.Goals as goal

pub returns-in_err-check_keys-clause-fault : goal.returns-in_err-check_keys-clause-fault
returns-in_err-check_keys-clause-fault c =
    let step = c.from_residual in
    handed_on step.result _ _ step.ensures.1
    (unknown_first Top top_keys (entries_view c.args.table.now) _ _ c.in_err-check_keys.ensures.fault)

pub returns-in_err-format-clause-fault : goal.returns-in_err-format-clause-fault
returns-in_err-format-clause-fault c =
    let step = c.from_residual-in_err-format in
    handed_on step.result _ _ step.ensures.1
    (ap first_of (at_listed Top top_keys (entries_view c.args.table.now) _ c.in_ok-check_keys.ensures.ok)
    ∙ first_here _ _ _ c.in_err-format.ensures.fault)

pub returns-in_err-cores-clause-fault : goal.returns-in_err-cores-clause-fault
returns-in_err-cores-clause-fault c =
    let step = c.from_residual-in_err-cores in
    handed_on step.result _ _ step.ensures.1
    (ap first_of (at_listed Top top_keys (entries_view c.args.table.now) _ c.in_ok-check_keys.ensures.ok)
    ∙ first_later _ _ _ c.in_ok-format.ensures.ok.0 (first_here _ _ _ c.in_err-cores.ensures.fault))

pub returns-in_err-parts-clause-fault : goal.returns-in_err-parts-clause-fault
returns-in_err-parts-clause-fault c =
    let step = c.from_residual-in_err-parts in
    handed_on step.result _ _ step.ensures.1
    (ap first_of (at_listed Top top_keys (entries_view c.args.table.now) _ c.in_ok-check_keys.ensures.ok)
    ∙ first_later _ _ _ c.in_ok-format.ensures.ok.0
    (first_later _ _ _ c.in_ok-cores.ensures.ok.0 c.in_err-parts.ensures.fault))

pub returns-clause-ok : goal.returns-clause-ok
returns-clause-ok c = (
  at_listed Top top_keys (entries_view c.args.table.now) _ c.in_ok-check_keys.ensures.ok
      ∙ none_both _ _ c.in_ok-format.ensures.ok.0
      (none_both _ _ c.in_ok-cores.ensures.ok.0 c.in_ok-parts.ensures.ok.0),
  c.in_ok-format.ensures.ok.1,
  c.in_ok-cores.ensures.ok.1,
  c.in_ok-parts.ensures.ok.1,
)
