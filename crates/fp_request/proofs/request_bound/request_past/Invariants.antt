use Rattle.std.proofs.Common.{◌≡◌}
use Rattle.slot_model.specs.Task.{sporadic_tasks}
use Rattle.slot_model.specs.Order.{ranks_above}
use Rattle.fp_request.proofs.Parts.{request_to}
use Rattle.fp_request.proofs.request_bound.request_past.Given as goal

abbrev pub invariant-loop-k : goal.invariant-loop-k
invariant-loop-k l =
    l.sum ≡ request_to (ranks_above l.sched (sporadic_tasks l.tasks)) (sporadic_tasks l.tasks) l.i l.t l.k
