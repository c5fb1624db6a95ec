use Rattle.slot_model.specs.Task.{sporadic_tasks}
use Rattle.slot_model.proofs.Constrained.{are_constrained}
use Rattle.fp_request.proofs.ReleasedWork.{requests_bound}
use Rattle.fp_request.proofs.request_bound.request.Goals as goal

pub returns-then-t-clause-bounds : goal.returns-then-t-clause-bounds
returns-then-t-clause-bounds c =
    requests_bound (sporadic_tasks c.args.tasks.now) (are_constrained c.args.tasks.now) c.args.t

pub returns-else-t-clause-bounds : goal.returns-else-t-clause-bounds
returns-else-t-clause-bounds c =
    requests_bound (sporadic_tasks c.args.tasks.now) (are_constrained c.args.tasks.now) c.args.t
