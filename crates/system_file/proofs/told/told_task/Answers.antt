use Rattle.slot_model.specs.Task.{sporadic_task}
use Rattle.system_file.proofs.ToldLines.{task_is_told}
use Rattle.system_file.proofs.told.told_task.Goals as goal

pub returns : goal.returns
returns c path =
    let (period, work, deadline, jitter) = c.in_ok-task.ensures in
    task_is_told c.in_ok-name.name (sporadic_task c.in_ok-task.task) (c.in_ok-there.ensures path) c.in_ok-name.was
    period work deadline jitter
