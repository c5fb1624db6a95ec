use Rattle.std.proofs.Common.{ℕ, ◌<◌}
use Rattle.slot_model.specs.Task.{sporadic_tasks}
use Rattle.slot_model.specs.Order.{ranks_above}
use Rattle.cert_verify.proofs.Walked.{FallsShort}
use Rattle.cert_verify.proofs.points.is_chain.Given as goal

abbrev pub invariant-loop-j : goal.invariant-loop-j
invariant-loop-j g l =
    (k : ℕ) → k < l.j
    → FallsShort (ranks_above l.task.sched (sporadic_tasks l.task.tasks.now)) (sporadic_tasks l.task.tasks.now)
    (g.S.Supply.bound l.s) l.task.i l.falls k
