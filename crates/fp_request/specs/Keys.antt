-- The keys of jobs under a fixed order.
use Rattle.std.specs.Prelude.{ℕ, ◌+◌, ◌-◌, List}
use Rattle.slot_model.specs.declared.job.Job.{Job}
use Rattle.slot_model.specs.declared.key.Key.{Key}
use Rattle.slot_model.specs.declared.sched.Sched.{Sched}
use Rattle.slot_model.specs.declared.sched.Sched.TheVariants.{Rm, Dm}
use Rattle.slot_model.specs.Task.{SporadicTask, task_at}
use Rattle.slot_model.specs.Order.{key_of_numbers}

-- what a task ranks by, before its place: nothing where the list ranks
abbrev pub rank_of : Sched → SporadicTask → ℕ
rank_of Rm task = task.period
rank_of Dm task = task.deadline
rank_of _ task = 0

-- the arrival of a job, counted from `jitter` slots before moment 0: it may have arrived so early
abbrev pub arrival_of : List SporadicTask → Job → ℕ
arrival_of tasks job = job.release + ((task_at tasks job.task).jitter - job.early)

-- the task's rank, its place, and among its jobs the arrival
abbrev pub fixed_key : Sched → List SporadicTask → Job → Key
fixed_key sched tasks job =
    key_of_numbers (rank_of sched (task_at tasks job.task)) job.task (arrival_of tasks job)
