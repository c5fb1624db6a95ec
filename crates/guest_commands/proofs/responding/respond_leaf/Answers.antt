use Rattle.std.proofs.Common.{◌≡◌, ℕ, ◌+◌, ◌<◌, ◌≤◌, ◌++◌, List, length, get_or, MatchOption, arith, sym, ◌∙◌, ap, subst}
use Rattle.std.proofs.lemmas.List.{get_or_read}
use Rattle.slot_model.specs.Task.{SporadicTask, sporadic_tasks}
use Rattle.fp_request.proofs.Parts.{sporadic_tasks-length}
use Rattle.tree_model.specs.System.{own_tasks, part_at}
use Rattle.rt_report.specs.declared.responses.Response.{Response}
use Rattle.guest_commands.specs.Responses.{AnswerTasks, IsResponseOf, places_in}
use Rattle.miss_witness.proofs.ReplayLeaf.{LeafRead, leaf_read}
use Rattle.guest_commands.proofs.RespondLeaf.{all_tasks, one_more_task, read_passes, row_is}
use Rattle.guest_commands.proofs.responding.respond_leaf.Goals as goal
use Rattle.guest_commands.proofs.responding.respond_leaf.Goals.{After-sched-sched}

-- what is read of the leaf before its tasks are answered
read : (c : After-sched-sched)
    → LeafRead c.args.sys.now c.args.plan.now c.args.q c.sched-sched.result
    (sporadic_tasks c.own_tasks_in-tasks.result.now) c.period.result (get_or c.budgets-budgets.result.now c.args.q 0)
read c =
    leaf_read c.args.sys.now c.args.plan.now c.args.q c.parts.result.now c.index-parts-q.result c.sched-sched.result _
    c.period.result c.budgets-budgets.result.now c.parts.ensures.parts c.requires.is_part c.index-parts-q.is
    c.sched-sched.ensures c.own_tasks_in-tasks.ensures.tasks c.period.ensures c.budgets-budgets.ensures

pub responses-requires-clause-passes : goal.responses-requires-clause-passes
responses-requires-clause-passes c =
    read_passes c.args.sys.now c.args.plan.now c.requires.admitted c.args.q c.requires.is_part c.requires.fixed
    c.sched-sched.result _ c.period.result _ (read (goal.at.responses-requires-clause-passes c).After-sched-sched)

pub loop-i-preserved : goal.loop-i-preserved
loop-i-preserved c places before =
    let sys = c.args.sys.now in let plan = c.args.plan.now in
    let i = c.loop-i.i in
    let T = sporadic_tasks c.own_tasks_in-tasks.result.now in
    let supply_period = c.period.result in let budget = get_or c.budgets-budgets.result.now c.args.q 0 in
    let as_read = read (goal.at.loop-i-preserved c).After-sched-sched in
    let l : i < length c.own_tasks_in-tasks.result.now = omega (arith, c.loop-i-test.true) in
    let worst : c.index.result.now ≡ get_or c.in_ok-worst.worst.items i 0
    = get_or_read c.in_ok-worst.worst.items i c.index.result.now (omega (arith, l, c.in_ok-worst.ensures.long))
    c.index.ensures 0 in
    let told : IsResponseOf c.sched-sched.result T supply_period budget i c.row_of.result
    = row_is c.sched-sched.result T supply_period budget i c.row_of.result (get_or c.in_ok-worst.worst.items i 0)
    (c.in_ok-worst.ensures.least i l) (c.in_ok-worst.ensures.greatest i l) (c.in_ok-worst.ensures.shown i l)
    c.row_of.ensures.limit (c.row_of.ensures.worst ∙ worst)
    (subst (λ (start : ℕ). MatchOption c.row_of.result.replay (1000000 < start + c.row_of.result.worst)
    (λ t. (start + c.row_of.result.worst ≤ 1000000) × (t ≡ c.row_of.result.worst))) c.start.ensures
    c.row_of.ensures.replay) in
    subst (λ (rows : List Response). AnswerTasks sys plan (places ++ places_in c.args.q (i + 1)) rows)
    (sym c.in_ok-push.ensures.items)
    (one_more_task sys plan c.args.q i c.sched-sched.result _ c.period.result _
    as_read places c.loop-i.rows.items c.row_of.result
    c.row_of.ensures.of.0 c.row_of.ensures.of.1 told (c.loop-i.invariant places before))

pub returns : goal.returns
returns c places before =
    let own : length (sporadic_tasks c.own_tasks_in-tasks.result.now)
    ≡ length (own_tasks (part_at c.args.sys.now c.args.q))
    = ap (λ (ts : List SporadicTask). length ts) (read (goal.at.returns c).After-sched-sched).tasks_are in
    all_tasks c.args.sys.now c.args.plan.now c.args.q c.loop-i.i places c.loop-i.rows.items
    (omega (
      arith,
      own,
      sporadic_tasks-length c.own_tasks_in-tasks.result.now,
      c.loop-i.auto.i-end,
      c.loop-i-test.false,
    )) c.requires.fixed
    (c.loop-i.invariant places before)
