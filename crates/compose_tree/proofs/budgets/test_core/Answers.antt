use Rattle.std.proofs.Common.{refl}
use Rattle.std.proofs.lemmas.Result.{IfOk-weaker, IfErr-weaker}
use Rattle.slot_model.specs.Bound.{TestPasses}
use Rattle.tree_model.specs.declared.place.Place.TheVariants.{Core}
use Rattle.tree_model.proofs.InRange.{children_fit}
use Rattle.tree_model.proofs.Levels.{of_level}
use Rattle.compose_tree.specs.Steps.{NodeRefuses}
use Rattle.compose_tree.proofs.Settling.{before_core, node_refuses}
use Rattle.compose_tree.proofs.budgets.test_core.Goals as goal

pub write_tasks-count-requires-clause-in_period : goal.write_tasks-count-requires-clause-in_period
write_tasks-count-requires-clause-in_period c =
    children_fit c.args.sys.now c.sched_of-sched.ensures.system c.args.budgets.now (Core c.args.c) c.requires.assigned

pub returns-clause-passes : goal.returns-clause-passes
returns-clause-passes c =
    IfOk-weaker c.test_node.result _ _
    (λ done h.
    of_level TestPasses c.sched_of-sched.ensures.sched c.write_tasks-count.ensures.tasks
    c.node_supply-supply.ensures.bound c.node_supply-supply.ensures.cycle h) c.test_node.ensures.passes

pub returns-clause-refusal : goal.returns-clause-refusal
returns-clause-refusal c =
    IfErr-weaker c.test_node.result _ _
    (λ r h.
    node_refuses c.args.sys.now c.args.budgets.now (Core c.args.c) c.requires.is_core
    (before_core c.args.sys.now c.args.budgets.now c.args.c c.requires.assigned c.requires.pass c.requires.before) _
    refl r
    (of_level (λ s T f m. NodeRefuses s T f m (Core c.args.c) r) c.sched_of-sched.ensures.sched
    c.write_tasks-count.ensures.tasks c.node_supply-supply.ensures.bound c.node_supply-supply.ensures.cycle h))
    c.test_node.ensures.refuses
