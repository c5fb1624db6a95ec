-- A job that stands in a list; the synchronous release has the job of each moment.
use Rattle.std.proofs.Common.{◌≡◌, ℕ, ◌<◌, Bool, true, List, length}
use Rattle.slot_model.specs.Task.{default_job, job_at, task_at, SporadicTask}
use Rattle.slot_model.specs.Slots.{gathered}
use Rattle.slot_model.specs.Release.{releases_now, task_releases, release_of, synchronous}
use Rattle.slot_model.specs.declared.job.Job.{Job}
use Rattle.slot_model.proofs.Gathered.{stand, stands_within, stands_there}

-- job y stands in a list
pub record In (jobs : List Job) (y : Job) : Type 0 where
  pub place : ℕ
  pub within : place < length jobs
  pub is : job_at jobs place ≡ y

pub gathered_in : (there : ℕ → ℕ → Bool) (what : ℕ → ℕ → Job) (n t x i : ℕ) → i < n → x < t → there x i ≡ true
    → In (gathered there what n t) (what x i)
gathered_in there what n t x i l m e =
    record {
      place = stand there what n default_job x i;
      within = stands_within there what n default_job x t i m l e;
      is = stands_there there what n default_job x t i m l e;
    }

pub has_release : (tasks : List SporadicTask) (a t x i : ℕ) → i < length tasks → x < t
    → releases_now (task_at tasks i) x ≡ true → In (synchronous tasks a t) (release_of tasks a x i)
unfolding synchronous
has_release tasks a t = gathered_in (task_releases tasks) (release_of tasks a) (length tasks) t
