use Rattle.slot_model.specs.Task.{sporadic_tasks}
use Rattle.certificate.proofs.Shows.{defeat_lists}
use Rattle.certificate.proofs.levels.short_lists.Goals as goal

pub returns-in_ok-falls-in-Some : goal.returns-in_ok-falls-in-Some
returns-in_ok-falls-in-Some c =
    defeat_lists c.args.sched (sporadic_tasks c.args.tasks.now) c.args.period c.args.least c.in-Some.task
    c.in_ok-falls-in-Some.falls.items c.witness-defeat.result c.witness-defeat.ensures.defeat c.in-Some.is
    c.in_ok-falls-in-Some.ensures
