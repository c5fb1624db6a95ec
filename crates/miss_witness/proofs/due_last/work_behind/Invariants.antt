use Rattle.std.proofs.Common.{◌≡◌, ◌*◌, ◌≤◌}
use Rattle.slot_model.specs.Slots.{sum_below}
use Rattle.slot_model.specs.Task.{sporadic_tasks}
use Rattle.miss_witness.specs.inner.DueLast.{part_from}
use Rattle.miss_witness.proofs.due_last.work_behind.Given as goal

abbrev pub invariant-loop-k : goal.invariant-loop-k
invariant-loop-k l = record {
  sum : l.total ≡ sum_below (part_from (sporadic_tasks l.tasks) l.span l.i) l.k;
  small : l.total ≤ l.k * 1000000000;
}
