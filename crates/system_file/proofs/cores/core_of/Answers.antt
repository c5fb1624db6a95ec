use Rattle.std.proofs.Common.{◌≡◌, List, refl, ap, ◌∙◌}
use Rattle.toml.specs.Data.{Data, table}
use Rattle.toml_items.specs.Item.{entries_view}
use Rattle.tree_model.specs.Lists.{first_of}
use Rattle.tree_model.proofs.Lists.{first_here, first_later, none_both}
use Rattle.slot_model.proofs.HandedOn.{handed_on}
use Rattle.system_file.specs.Faults.{core_keys, core_key_faults, table_faults}
use Rattle.system_file.proofs.ListedKeys.{unknown_first}
use Rattle.system_file.proofs.cores.core_of.Goals as goal
use Rattle.system_file.proofs.cores.core_of.Goals.{In_ok-check_keys}

-- in a table without an unknown key, the faults are those of its keys
judged : (c : In_ok-check_keys) (earlier : List Data)
    → table_faults c.args.spot core_keys (core_key_faults c.args.spot earlier (table (entries_view c.args.table.now)))
    (table (entries_view c.args.table.now))
    ≡ core_key_faults c.args.spot earlier (table (entries_view c.args.table.now))
judged c earlier = rw c.in_ok-check_keys.ensures.ok refl

pub returns-in_err-check_keys-clause-fault : goal.returns-in_err-check_keys-clause-fault
returns-in_err-check_keys-clause-fault c =
    let step = c.from_residual in
    handed_on step.result _ _ step.ensures.1 (λ memory earlier have.
    unknown_first c.args.spot core_keys (entries_view c.args.table.now) _ _ c.in_err-check_keys.ensures.fault)

pub returns-in_err-name-clause-fault : goal.returns-in_err-name-clause-fault
returns-in_err-name-clause-fault c =
    let step = c.from_residual-in_err-name in
    let at = (goal.at.returns-in_err-name-clause-fault c).In_ok-check_keys in
    handed_on step.result _ _ step.ensures.1 (λ memory earlier have.
    ap first_of (judged at earlier) ∙ first_here _ _ _ (c.in_err-name.ensures.fault memory earlier have))

pub returns-in_err-sched-clause-fault : goal.returns-in_err-sched-clause-fault
returns-in_err-sched-clause-fault c =
    let step = c.from_residual-in_err-sched in
    let at = (goal.at.returns-in_err-sched-clause-fault c).In_ok-check_keys in
    handed_on step.result _ _ step.ensures.1 (λ memory earlier have.
    ap first_of (judged at earlier) ∙ first_later _ _ _ (c.in_ok-name.ensures.ok earlier have).0
    (first_here _ _ _ c.in_err-sched.ensures.fault))

pub returns-in_err-supply-clause-fault : goal.returns-in_err-supply-clause-fault
returns-in_err-supply-clause-fault c =
    let step = c.from_residual-in_err-supply in
    let at = (goal.at.returns-in_err-supply-clause-fault c).In_ok-check_keys in
    handed_on step.result _ _ step.ensures.1 (λ memory earlier have.
    ap first_of (judged at earlier) ∙ first_later _ _ _ (c.in_ok-name.ensures.ok earlier have).0
    (first_later _ _ _ c.in_ok-sched.ensures.ok.0 c.in_err-supply.ensures.fault))

pub returns-clause-ok : goal.returns-clause-ok
returns-clause-ok c = λ earlier have.
    let at = (goal.at.returns-clause-ok c).In_ok-check_keys in
    let name = c.in_ok-name.ensures.ok earlier have in (
      judged at earlier
          ∙ none_both _ _ name.0 (none_both _ _ c.in_ok-sched.ensures.ok.0 c.in_ok-supply.ensures.ok.0),
      rw (name.1, c.in_ok-sched.ensures.ok.1, c.in_ok-supply.ensures.ok.1),
      name.2,
    )
