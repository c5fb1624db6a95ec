use Rattle.std.proofs.Common.{◌≡◌, ◌*◌, ◌≤◌, ◌^◌, take}
use Rattle.slot_model.specs.Task.{sporadic_tasks}
use Rattle.edf_test.specs.Rates.{asked_rate, asked_ahead}
use Rattle.edf_test.proofs.Lines.{IsAbove}
use Rattle.edf_test.proofs.settled.demand_line.Given as goal

abbrev pub invariant-loop-task : goal.invariant-loop-task
invariant-loop-task l = record {
  above : IsAbove (sporadic_tasks (take l.task-index l.tasks)) l.slope l.offset;
  slope : l.slope ≡ asked_rate (sporadic_tasks (take l.task-index l.tasks));
  offset : l.offset ≡ asked_ahead (sporadic_tasks (take l.task-index l.tasks));
  slope_small : l.slope ≤ l.task-index * 2 ^ 60;
  offset_small : l.offset ≤ l.task-index * 2 ^ 90;
}
