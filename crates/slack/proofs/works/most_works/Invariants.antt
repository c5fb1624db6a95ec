use Rattle.std.proofs.Common.{◌≡◌, length}
use Rattle.slot_model.specs.Task.{sporadic_tasks}
use Rattle.least_budget.specs.Gatherings.{sched_by, Stand}
use Rattle.slack.specs.inner.Steps.{AreMostPassing}
use Rattle.slack.proofs.works.most_works.Given as goal

-- the tasks are as they were, the terms stand for them, and the greatest works of those so far are
-- found
abbrev pub invariant-loop-i : goal.invariant-loop-i
invariant-loop-i l = record {
  same : l.tasks ≡ l.initial.tasks;
  sched : sched_by l.gathering ≡ l.fn.sched;
  stand : Stand l.gathering l.terms l.tasks;
  so_far : length l.works.items ≡ l.i;
  most : AreMostPassing l.fn.sched (sporadic_tasks l.initial.tasks) l.supply.period l.supply.budget l.works.items;
}
