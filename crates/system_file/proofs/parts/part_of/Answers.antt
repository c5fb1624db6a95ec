use Rattle.std.proofs.Common.{◌≡◌, ℕ, true, List, [], ◌∷◌, ◌++◌, length, refl, ap, ◌∙◌, ◌+◌, append_assoc, arith, length-append}
use Rattle.toml.specs.Data.{Data, Members, table}
use Rattle.toml_items.specs.Item.{entries_view}
use Rattle.tree_model.specs.Lists.{first_of}
use Rattle.tree_model.proofs.Lists.{first_here, first_later, none_both}
use Rattle.slot_model.proofs.HandedOn.{handed_on}
use Rattle.tree_model.specs.View.{PartView}
use Rattle.system_file.specs.declared.format.Format.{Format}
use Rattle.system_file.specs.declared.fault.Spot.TheVariants.{Part}
use Rattle.system_file.specs.Document.{tasks_of}
use Rattle.system_file.specs.Faults.{has_only, in_order, part_faults, part_keys, part_key_faults, task_faults}
use Rattle.system_file.specs.inner.Reading.{Known}
use Rattle.system_file.proofs.ListedKeys.{unknown_first}
use Rattle.system_file.proofs.Places.{as_many}
use Rattle.system_file.proofs.parts.part_of.Goals as goal

-- in a table without an unknown key, the faults are those of its keys and of its tasks
judged : {cores before later : List Data} {members : Members} {count : ℕ} {names : List (List ℕ)}
    {earlier : List PartView} (format : Format) → has_only part_keys members ≡ true
    → Known cores before (table members ∷ later) count names earlier
    → part_faults format cores before (table members)
    ≡ part_key_faults (Part (length earlier)) cores before (table members)
    ++ in_order (task_faults format (length earlier)) [] (tasks_of (table members))
judged format listed known = rw (as_many known, listed) refl

pub placed_at-requires-clause-names : goal.placed_at-requires-clause-names
placed_at-requires-clause-names c =
    let put : length c.name_at.new.names ≡ length c.args.names.now + 1
    = ap length c.in_ok-name.ensures.put ∙ length-append c.args.names.now _ in
    omega (arith, put, c.requires.names)

pub returns-clause-named : goal.returns-clause-named
returns-clause-named c = ap length c.in_ok-name.ensures.put ∙ length-append c.args.names.now _

pub returns-in_err-check_keys-clause-fault : goal.returns-in_err-check_keys-clause-fault
returns-in_err-check_keys-clause-fault c =
    let step = c.from_residual in
    handed_on step.result _ _ step.ensures.1 (λ memory cores before later known.
    rw (as_many known)
    (unknown_first (Part (length c.args.earlier.now)) part_keys (entries_view c.args.table.now) _ _
    c.in_err-check_keys.ensures.fault))

pub returns-in_err-name-clause-fault : goal.returns-in_err-name-clause-fault
returns-in_err-name-clause-fault c =
    let step = c.from_residual-in_err-name in
    handed_on step.result _ _ step.ensures.1 (λ memory cores before later known.
    ap first_of (judged c.args.format c.in_ok-check_keys.ensures.ok known)
    ∙ first_here _ _ _ (first_here _ _ _ (c.in_err-name.ensures.fault memory (cores ++ before) known.named)))

pub returns-in_err-placed-clause-fault : goal.returns-in_err-placed-clause-fault
returns-in_err-placed-clause-fault c =
    let step = c.from_residual-in_err-placed in
    handed_on step.result _ _ step.ensures.1 (λ memory cores before later known.
    ap first_of (judged c.args.format c.in_ok-check_keys.ensures.ok known)
    ∙ first_here _ _ _ (first_later _ _ _ (c.in_ok-name.ensures.ok (cores ++ before) known.named).0
    (c.in_err-placed.ensures.fault cores before (table (entries_view c.args.table.now) ∷ later)
    c.args.names.now _ c.in_ok-name.ensures.put known)))

pub returns-in_err-tasks-clause-fault : goal.returns-in_err-tasks-clause-fault
returns-in_err-tasks-clause-fault c =
    let step = c.from_residual-in_err-tasks in
    handed_on step.result _ _ step.ensures.1 (λ memory cores before later known.
    let parent
    = c.in_ok-placed.ensures.parent cores before (table (entries_view c.args.table.now) ∷ later) c.args.names.now _
    c.in_ok-name.ensures.put known in
    ap first_of (judged c.args.format c.in_ok-check_keys.ensures.ok known)
    ∙ first_later _ _ _ (none_both _ _ (c.in_ok-name.ensures.ok (cores ++ before) known.named).0 parent.0)
    (rw c.in_ok-placed.ensures.served.3 at (c.in_err-tasks.ensures.fault memory)))

pub returns-clause-ok : goal.returns-clause-ok
returns-clause-ok c = λ cores before later known.
    let name = c.in_ok-name.ensures.ok (cores ++ before) known.named in
    let parent
    = c.in_ok-placed.ensures.parent cores before (table (entries_view c.args.table.now) ∷ later) c.args.names.now _
    c.in_ok-name.ensures.put known in
    let served = c.in_ok-placed.ensures.served in
    let tasks = rw served.3 at c.in_ok-tasks.ensures.ok in (
      judged c.args.format c.in_ok-check_keys.ensures.ok known ∙ none_both _ _ (none_both _ _ name.0 parent.0) tasks.0,
      rw (name.1, parent.1, c.in_ok-placed.ensures.sched, served.0, served.1, served.2, tasks.1),
      rw (← append_assoc) name.2,
    )
