use Rattle.std.proofs.Common.{arith, ◌*◌, ◌≡◌}
use Rattle.std.proofs.lemmas.Grind.{common_steps}
use Rattle.slot_model.specs.Task.{sporadic_task}
use Rattle.slot_model.specs.Bound.{request_of}
use Rattle.fp_request.proofs.Ceiling.{request_of-is}
use Rattle.fp_request.proofs.request_bound.request_of_task.Goals as goal

pub returns : goal.returns
returns c =
    let e : request_of (sporadic_task c.args.task.now) c.args.t ≡ c.arrivals.result * c.args.task.now.work
    = request_of-is (sporadic_task c.args.task.now) c.args.t c.arrivals.result c.arrivals.ensures in
    grind (arith, common_steps, e)
