-- The work that is released in a window.
use Rattle.std.specs.Prelude.{ℕ, ◌+◌, ◌<◌, ◌≤◌, ◌==◌, ◌&&◌, nat_lt, nat_le, if◌then◌else◌, List, length}
use Rattle.slot_model.specs.declared.job.Job.{Job}
use Rattle.slot_model.specs.Slots.{sum_below}
use Rattle.slot_model.specs.Task.{SporadicTask, task_at, job_at}
use Rattle.slot_model.specs.Release.{LegalRelease}
use Rattle.slot_model.specs.Bound.{request_of}

-- the work of the jobs of task k that are released at `from` or later and before `to`
abbrev pub work_released : List Job → ℕ → ℕ → ℕ → ℕ
work_released jobs k from to =
    sum_below (λ j.
    if (job_at jobs j).task == k &&
    (nat_le from (job_at jobs j).release && nat_lt (job_at jobs j).release to)
    then (job_at jobs j).work else 0) (length jobs)

-- in every legal release, the jobs of one task that are released in a window of t slots ask for no
-- more than its request
abbrev pub RequestsBound : List SporadicTask → ℕ → Type 0
RequestsBound tasks t =
    (jobs : List Job) → LegalRelease tasks jobs → (k from : ℕ) → k < length tasks →
    work_released jobs k from (from + t) ≤ request_of (task_at tasks k) t
