use Rattle.std.proofs.Common.{arith}
use Rattle.std.proofs.lemmas.List.{length-map}
use Rattle.slot_model.specs.Task.{sporadic_task, sporadic_tasks}
use Rattle.release_pattern.proofs.Prompt.{multiples_few}
use Rattle.schedule_tests.proofs.server_sched_tests.released.Goals as goal

pub server_jobs-requires : goal.server_jobs-requires
server_jobs-requires c =
    omega
    (arith, multiples_few (sporadic_tasks c.args.tasks.now) 9, length-map c.args.tasks.now sporadic_task, c.requires)
