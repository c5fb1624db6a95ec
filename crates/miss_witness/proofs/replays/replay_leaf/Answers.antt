use Rattle.std.proofs.Common.{ℕ, List, Option, get_or, arith, ap, subst}
use Rattle.slot_model.specs.declared.sched.Short.{Short}
use Rattle.tree_model.specs.System.{part_at}
use Rattle.tree_model.specs.Tree.{budget_at}
use Rattle.compose_tree.specs.Shorts.{IsShortOf}
use Rattle.slot_model.specs.Task.{sporadic_tasks}
use Rattle.tree_model.proofs.InRange.{admitted_in_period}
use Rattle.miss_witness.proofs.ReplayLeaf.{LeafRead, leaf_read, read_replay, read_short, some_short}
use Rattle.miss_witness.proofs.replays.replay_leaf.Goals as goal
use Rattle.miss_witness.proofs.replays.replay_leaf.Goals.{After-own_tasks_in-tasks}

pub unreachable-requires : goal.unreachable-requires
unreachable-requires c =
    some_short (part_at c.args.sys.now c.args.q) (budget_at c.args.plan.now c.args.q)
    (admitted_in_period c.args.sys.now c.parts.ensures.system c.args.plan.now c.requires.admitted c.args.q
    c.requires.is_part).0
    (subst (λ (o : Option Short). IsShortOf (part_at c.args.sys.now c.args.q)
    (budget_at c.args.plan.now c.args.q) o) c.in_default.is c.requires.short)

-- what is read of the leaf before its witness is made
read : (c : After-own_tasks_in-tasks)
    → LeafRead c.args.sys.now c.args.plan.now c.args.q c.sched-sched.result
    (sporadic_tasks c.own_tasks_in-tasks.result.now) c.period-period.result
    (get_or c.budgets-budgets.result.now c.args.q 0)
read c =
    leaf_read c.args.sys.now c.args.plan.now c.args.q c.parts.result.now c.index-parts-q.result c.sched-sched.result _
    c.period-period.result c.budgets-budgets.result.now c.parts.ensures.parts c.requires.is_part c.index-parts-q.is
    c.sched-sched.ensures c.own_tasks_in-tasks.ensures.tasks c.period-period.ensures c.budgets-budgets.ensures

pub defeat_by-witness-requires-clause-some_budget : goal.defeat_by-witness-requires-clause-some_budget
defeat_by-witness-requires-clause-some_budget c =
    let some
    = (admitted_in_period c.args.sys.now c.parts.ensures.system c.args.plan.now c.requires.admitted c.args.q
    c.requires.is_part).0 in
    omega (arith, some, ap (λ (bs : List ℕ). get_or bs c.args.q 0) c.budgets-budgets.ensures)

pub defeat_by-witness-requires-clause-short : goal.defeat_by-witness-requires-clause-short
defeat_by-witness-requires-clause-short c =
    read_short c.args.sys.now c.args.plan.now c.args.q
    (admitted_in_period c.args.sys.now c.parts.ensures.system c.args.plan.now c.requires.admitted c.args.q
    c.requires.is_part).0 c.sched-sched.result _ c.period-period.result _
    (read (goal.at.defeat_by-witness-requires-clause-short c).After-own_tasks_in-tasks) c.in-Some.short
    (subst (λ (o : Option Short). IsShortOf (part_at c.args.sys.now c.args.q)
    (budget_at c.args.plan.now c.args.q) o) c.in-Some.is c.requires.short)

pub returns : goal.returns
returns c =
    read_replay c.args.sys.now c.args.plan.now c.args.q c.requires.is_part c.requires.computed c.sched-sched.result
    (sporadic_tasks c.own_tasks_in-tasks.result.now) c.period-period.result _
    (read (goal.at.returns c).After-own_tasks_in-tasks)
    c.defeat_by-witness.result c.in_ok-miss.miss c.defeat_by-witness.ensures.defeat c.in_ok-miss.ensures
