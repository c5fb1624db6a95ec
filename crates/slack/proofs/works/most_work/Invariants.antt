use Rattle.std.proofs.Common.{◌≡◌, ◌-◌, set}
use Rattle.slot_model.specs.Task.{sporadic_tasks}
use Rattle.least_budget.specs.Gatherings.{sched_by, Stand}
use Rattle.slack.proofs.Halving.{WorkBetween}
use Rattle.slack.proofs.works.most_work.Given as goal

-- with the task in its place the tasks are as they were, the terms stand for what they are now, and
-- the greatest work is between the two
abbrev pub invariant-loop-low : goal.invariant-loop-low
invariant-loop-low l = record {
  back : set l.tasks l.i l.task ≡ l.initial.tasks;
  sched : sched_by l.gathering ≡ sched_by l.initial.gathering;
  stand : Stand l.gathering l.terms l.tasks;
  between : WorkBetween (sched_by l.initial.gathering) (sporadic_tasks l.initial.tasks) l.supply.period
      l.supply.budget l.i l.low l.high;
}

abbrev pub decreases-loop-low : goal.decreases-loop-low
decreases-loop-low l = l.high - l.low
