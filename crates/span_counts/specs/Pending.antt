-- How long the jobs of a guest level are pending: released, and without their work.
use Rattle.std.specs.Prelude.{ℕ, ◌&&◌, nat_lt, nat_le, Bool, List, length, Option}
use Rattle.slot_model.specs.declared.job.Job.{Job}
use Rattle.slot_model.specs.Slots.{count_below, sum_below}
use Rattle.slot_model.specs.Task.{job_at}
use Rattle.slot_model.specs.Run.{service}

-- whether job j is pending at x, at a guest level
abbrev pub is_pending : List Job → List (Option ℕ) → ℕ → ℕ → Bool
is_pending jobs run j x =
    nat_le (job_at jobs j).release x && nat_lt (service run j x) (job_at jobs j).work

-- the slots of a run at which job j is pending, and the pairs of a job and such a slot
abbrev pub slots_pending : List Job → List (Option ℕ) → ℕ → ℕ
slots_pending jobs run j = count_below (is_pending jobs run j) (length run)

abbrev pub pairs_pending : List Job → List (Option ℕ) → ℕ
pairs_pending jobs run = sum_below (slots_pending jobs run) (length jobs)
