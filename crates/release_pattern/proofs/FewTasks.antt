-- At least as many jobs as tasks, where there is a slot.
use Rattle.std.proofs.Common.{ℕ, ◌≤◌, List, length, refl, arith}
use Rattle.slot_model.specs.Task.{SporadicTask, default_job}
use Rattle.slot_model.specs.Release.{task_releases, release_of, synchronous}
use Rattle.slot_model.proofs.Counts.{count_all}
use Rattle.slot_model.proofs.Gathered.{gathered_longer, length_row}

pub a_job_each : (tasks : List SporadicTask) (start n : ℕ) → 1 ≤ n → length tasks ≤ length (synchronous tasks start n)
unfolding synchronous
a_job_each tasks start n l =
    omega (
      arith,
      length_row (task_releases tasks) (release_of tasks start) (length tasks) default_job 0 (length tasks),
      count_all (task_releases tasks 0) (length tasks) (λ k m. refl),
      gathered_longer (task_releases tasks) (release_of tasks start) (length tasks) default_job 1 n l,
    )
