use Rattle.std.proofs.Common.{◌≡◌, ◌-◌, ◌/◌, List, ap, arith, set, subst, ◌∙◌}
use Rattle.std.specs.Prelude.{◌↔◌, IsTrue}
use Rattle.std.proofs.lemmas.List.{length-map}
use Rattle.slot_model.specs.declared.sched.Sched.{Sched}
use Rattle.slot_model.specs.declared.task.Task.{Task}
use Rattle.slot_model.specs.Task.{SporadicTask, sporadic_task, sporadic_tasks}
use Rattle.slot_model.specs.Bound.{sbf, TestPasses}
use Rattle.least_budget.specs.Gatherings.{sched_by}
use Rattle.slack.specs.inner.Steps.{tasks_with}
use Rattle.slack.proofs.Halving.{work_higher, work_lower}
use Rattle.slack.proofs.Tasks.{back_again, tried_tasks}
use Rattle.slack.proofs.works.most_work.Goals as goal
use Rattle.slack.proofs.works.most_work.Goals.{After-passes_with}

-- what was told of the tasks with the one that is tried
told : (c : After-passes_with) → IsTrue c.passes_with.result
    ↔ TestPasses (sched_by c.args.gathering.now) (tasks_with (sporadic_tasks c.args.tasks.now) c.args.i
    (c.loop-low.high - (c.loop-low.high - c.loop-low.low) / 2)) (sbf c.args.supply.period c.args.supply.budget)
    c.args.supply.period
told c =
    subst (λ (s : Sched). IsTrue c.passes_with.result
    ↔ TestPasses s (tasks_with (sporadic_tasks c.args.tasks.now) c.args.i
    (c.loop-low.high - (c.loop-low.high - c.loop-low.low) / 2)) (sbf c.args.supply.period c.args.supply.budget)
    c.args.supply.period) c.loop-low.invariant.sched
    (subst (λ (ts : List SporadicTask). IsTrue c.passes_with.result
    ↔ TestPasses (sched_by c.loop-low.gathering) ts (sbf c.args.supply.period c.args.supply.budget)
    c.args.supply.period)
    (tried_tasks c.loop-low.tasks c.args.tasks.now c.args.i c.index-tasks-i.result c.with_work.result
    (c.loop-low.high - (c.loop-low.high - c.loop-low.low) / 2) c.requires.is_task c.loop-low.invariant.back
    c.index-tasks-i.is c.with_work.ensures) c.passes_with.ensures.passes)

-- and the task may come back as before
back : (c : After-passes_with) → set c.passes_with.new.tasks c.args.i c.index-tasks-i.result ≡ c.args.tasks.now
back c =
    ap (λ (ts : List Task). set ts c.args.i c.index-tasks-i.result) c.passes_with.ensures.set
    ∙ back_again c.loop-low.tasks c.args.tasks.now c.args.i c.index-tasks-i.result c.with_work.result
    c.loop-low.invariant.back

pub loop-low-preserved-then-passes_with : goal.loop-low-preserved-then-passes_with
loop-low-preserved-then-passes_with c =
    let at = (goal.at.loop-low-preserved-then-passes_with c).After-passes_with in
    record {
      back = back at;
      sched = c.passes_with.ensures.sched ∙ c.loop-low.invariant.sched;
      stand = c.passes_with.ensures.stand;
      between =
          work_higher (sched_by c.args.gathering.now) (sporadic_tasks c.args.tasks.now) c.args.supply.period
          c.args.supply.budget c.args.i c.loop-low.low c.loop-low.high
          (c.loop-low.high - (c.loop-low.high - c.loop-low.low) / 2) (omega (arith, c.loop-low-test.true)) (omega arith)
          ((told at).0 c.if-passes_with.true) c.loop-low.invariant.between;
    }

pub loop-low-preserved : goal.loop-low-preserved
loop-low-preserved c =
    let at = (goal.at.loop-low-preserved c).After-passes_with in
    record {
      back = back at;
      sched = c.passes_with.ensures.sched ∙ c.loop-low.invariant.sched;
      stand = c.passes_with.ensures.stand;
      between =
          work_lower (sched_by c.args.gathering.now) (sporadic_tasks c.args.tasks.now) c.args.supply.period
          c.args.supply.budget c.args.i c.loop-low.low c.loop-low.high
          (c.loop-low.high - (c.loop-low.high - c.loop-low.low) / 2)
          (omega (arith, c.requires.is_task, length-map c.args.tasks.now sporadic_task))
          (omega (arith, c.loop-low-test.true)) (omega arith)
          (λ passes. let e = (told at).1 passes in let f = c.if-passes_with.false in absurd (cc))
          c.loop-low.invariant.between;
    }
