use Rattle.std.proofs.Common.{◌≡◌, sum_by, take}
use Rattle.slot_model.specs.Task.{sporadic_task}
use Rattle.edf_test.specs.inner.Rates.{task_ahead}
use Rattle.edf_test.proofs.equal.ahead_of_rate.Given as goal

abbrev pub invariant-loop-task : goal.invariant-loop-task
invariant-loop-task l = l.ahead ≡ sum_by (λ task. task_ahead l.m (sporadic_task task)) (take l.task-index l.tasks)
