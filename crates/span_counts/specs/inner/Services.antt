-- What each job gets, and when it is due.
use Rattle.std.specs.Prelude.{◌≡◌, ℕ, ◌-◌, ◌^◌, ◌<◌, min, List, length, slice_index_or, Option}
use Rattle.slot_model.specs.declared.job.Job.{Job}
use Rattle.slot_model.specs.Task.{SporadicTask, job_at, deadline_of}
use Rattle.slot_model.specs.Run.{service}

-- the slots that each job gets before its deadline moment, as far as the run goes
pub record AreServices (tasks : List SporadicTask) (jobs : List Job) (run : List (Option ℕ))
    (got : List ℕ) : Type 0 where
  pub long : length got ≡ length jobs
  pub each : (j : ℕ) → j < length jobs → slice_index_or got j 0 ≡ service run j (min
      (deadline_of tasks (job_at jobs j)) (length run))

-- the deadline moment of each job, or the last moment of all
pub record AreDues (tasks : List SporadicTask) (jobs : List Job) (dues : List ℕ) : Type 0 where
  pub long : length dues ≡ length jobs
  pub each : (j : ℕ) → j < length jobs → slice_index_or dues j 0 ≡ min
      (deadline_of tasks (job_at jobs j)) (2 ^ 64 - 1)
