-- What each job waits for.
use Rattle.std.specs.Prelude.{◌≡◌, ℕ, ◌+◌, ◌<◌, ◌≤◌, List, length, slice_index_or, Option}
use Rattle.slot_model.specs.declared.job.Job.{Job}
use Rattle.slot_model.specs.Task.{job_at}
use Rattle.slot_model.specs.Run.{service}
use Rattle.span_counts.specs.declared.pending.Wait.{Wait}

-- from this moment on, and not before, job j has so much work
pub record HasWorkFrom (run : List (Option ℕ)) (j work moment : ℕ) : Type 0 where
  pub lacks : (x : ℕ) → x < moment → service run j x < work
  pub has : (x : ℕ) → moment ≤ x → work ≤ service run j x

-- what job j lacks at x, and the moment from which it has its work: `slots` while it lacks some
pub record WaitsTo (run : List (Option ℕ)) (j work slots x : ℕ) (wait : Wait) : Type 0 where
  pub left : work ≤ wait.left + service run j x
  pub no_more : 0 < wait.left → wait.left + service run j x ≡ work
  pub lacks : 0 < wait.left → wait.end ≡ slots
  pub has : wait.left ≡ 0 → HasWorkFrom run j work wait.end

abbrev pub wait_at : List Wait → ℕ → Wait
wait_at waits j = slice_index_or waits j (record { left = 0; end = 0 })

-- so it is with each job
pub record AreWaitsTo (jobs : List Job) (run : List (Option ℕ)) (slots x : ℕ)
    (waits : List Wait) : Type 0 where
  pub long : length waits ≡ length jobs
  pub each : (j : ℕ) → j < length jobs →
      WaitsTo run j (job_at jobs j).work slots x (wait_at waits j)
