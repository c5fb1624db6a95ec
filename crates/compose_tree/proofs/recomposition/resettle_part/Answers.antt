use Rattle.tree_model.specs.declared.place.Place.TheVariants.{Part}
use Rattle.compose_tree.proofs.Ways.{assigned_later, pass_later, settles, kept_up}
use Rattle.compose_tree.proofs.recomposition.resettle_part.Goals as goal

pub settle_part-requires-clause-assigned : goal.settle_part-requires-clause-assigned
settle_part-requires-clause-assigned c =
    assigned_later c.args.sys.now c.parts-parts.ensures.system c.args.budgets.now (Part c.args.q) c.requires.kept

pub settle_part-requires-clause-pass : goal.settle_part-requires-clause-pass
settle_part-requires-clause-pass c =
    pass_later c.args.sys.now c.parts-parts.ensures.system c.args.budgets.now (Part c.args.q) c.requires.kept

pub returns-in-Ok-clause-settled : goal.returns-in-Ok-clause-settled
returns-in-Ok-clause-settled c =
    settles c.args.sys.now c.args.budgets.now c.args.q c.requires.kept.is_node c.in-Ok.settled.budget
    c.in-Ok.ensures.assigned c.in-Ok.ensures.pass

pub returns-in-Ok-clause-kept : goal.returns-in-Ok-clause-kept
returns-in-Ok-clause-kept c =
    kept_up c.args.sys.now c.parts-parts.ensures.system c.args.budgets.now c.args.q c.requires.kept
    c.in-Ok.settled.budget (returns-in-Ok-clause-settled c)
