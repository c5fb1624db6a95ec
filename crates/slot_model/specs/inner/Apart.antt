-- What the test of a release keeps of the jobs of one task.
use Rattle.std.specs.Prelude.{◌≡◌, ℕ, ◌<◌, true, List, length, Option, Some, None}
use Rattle.slot_model.specs.declared.job.Job.{Job}
use Rattle.slot_model.specs.Task.{SporadicTask, task_at, job_at, ArrivesAfter}
use Rattle.slot_model.specs.Release.{fits_task}

-- each job fits its task
abbrev pub JobsFit : List SporadicTask → List Job → Type 0
JobsFit tasks jobs = (j : ℕ) → j < length jobs → fits_task tasks (job_at jobs j) ≡ true

-- of two jobs of the task at a place the later in the list arrives at least a period after the
-- earlier
abbrev pub IsApart : List Job → ℕ → ℕ → Type 0
IsApart jobs place period =
    (i j : ℕ) → i < j → j < length jobs →
    (job_at jobs i).task ≡ place → (job_at jobs j).task ≡ place →
    ArrivesAfter (job_at jobs i) period (job_at jobs j)

-- a job of a task may follow the last one of it, where there is one
abbrev pub MayFollow : Option Job → ℕ → Job → Type 0
MayFollow None period job = Unit {0}
MayFollow (Some before) period job = ArrivesAfter before period job

abbrev pub AllApart : List SporadicTask → List Job → Type 0
AllApart tasks jobs = (i : ℕ) → i < length tasks → IsApart jobs i (task_at tasks i).period
