use Rattle.std.proofs.Common.{◌∙◌, sym}
use Rattle.slot_model.specs.Task.{sporadic_tasks}
use Rattle.fp_request.proofs.Before.{one_task-by_arrival}
use Rattle.fp_request.proofs.fixed.comes_first.Goals as goal

pub returns-then-a-b : goal.returns-then-a-b
returns-then-a-b c =
    c.is_sooner.ensures
    ∙ sym (one_task-by_arrival c.args.sched c.requires.fixed (sporadic_tasks c.args.tasks.now) c.args.a.now c.args.b.now
    c.if-a-b.true)
