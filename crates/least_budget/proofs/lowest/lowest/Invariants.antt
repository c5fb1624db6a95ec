use Rattle.std.proofs.Common.{◌<◌}
use Rattle.slot_model.specs.Task.{sporadic_tasks}
use Rattle.slot_model.specs.Order.{ranks_above}
use Rattle.fp_request.specs.Lowest.{IsLowest}
use Rattle.least_budget.proofs.lowest.lowest.Given as goal

abbrev pub invariant-loop-i : goal.invariant-loop-i
invariant-loop-i l = record {
  before : l.low < l.i;
  lowest : IsLowest (ranks_above l.sched (sporadic_tasks l.tasks)) l.i l.low;
}
