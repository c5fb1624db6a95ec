use Rattle.std.proofs.lemmas.Result.{IfOk-weaker}
use Rattle.tree_model.specs.declared.place.Place.TheVariants.{Core}
use Rattle.compose_tree.proofs.Ways.{assigned_later, pass_later, cores_before, core_admits}
use Rattle.compose_tree.proofs.recomposition.retest_core.Goals as goal

pub test_core-requires-clause-assigned : goal.test_core-requires-clause-assigned
test_core-requires-clause-assigned c =
    assigned_later c.args.sys.now c.parts-parts.ensures.system c.args.budgets.now (Core c.args.c) c.requires.kept

pub test_core-requires-clause-pass : goal.test_core-requires-clause-pass
test_core-requires-clause-pass c =
    pass_later c.args.sys.now c.parts-parts.ensures.system c.args.budgets.now (Core c.args.c) c.requires.kept

pub test_core-requires-clause-before : goal.test_core-requires-clause-before
test_core-requires-clause-before c = cores_before c.args.sys.now c.args.budgets.now c.args.c c.requires.kept

pub returns-clause-admitted : goal.returns-clause-admitted
returns-clause-admitted c =
    IfOk-weaker c.test_core.result _ _
    (λ done passes.
    core_admits c.args.sys.now c.parts-parts.ensures.system c.args.budgets.now c.args.c c.requires.kept passes)
    c.test_core.ensures.passes
