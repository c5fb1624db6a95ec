use Rattle.std.proofs.Common.{arith}
use Rattle.std.proofs.lemmas.List.{length-map}
use Rattle.slot_model.specs.Task.{sporadic_task, sporadic_tasks}
use Rattle.release_pattern.proofs.FewJobs.{synchronous-few}
use Rattle.level_tests.proofs.release_pattern_tests.jobs_of.Goals as goal

pub synchronous_jobs-requires-clause-few : goal.synchronous_jobs-requires-clause-few
synchronous_jobs-requires-clause-few c =
    omega (
      arith,
      synchronous-few (sporadic_tasks c.args.tasks.now) 2 96,
      length-map c.args.tasks.now sporadic_task,
      c.requires,
    )
