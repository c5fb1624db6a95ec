-- The replay of a greatest response.
use Rattle.std.specs.Prelude.{◌≡◌, ◌≢◌, ℕ, ◌+◌, ◌<◌, ◌≤◌, Bool, List, length, Option}
use Rattle.slot_model.specs.declared.job.Job.{Job}
use Rattle.slot_model.specs.Task.{SporadicTask, job_at}
use Rattle.slot_model.specs.Release.{synchronous}
use Rattle.slot_model.specs.Run.{guest, FirstRun}
use Rattle.slot_model.specs.Miss.{WorstList}
use Rattle.fp_test.specs.Hits.{IsLeastHit}
use Rattle.response_times.specs.Response.{IsResponse}

-- task i has a least hit, and a run that goes on for so many slots past `start` ends within
-- 1,000,000 slots
pub record IsReplayable (above : ℕ → ℕ → Bool) (tasks : List SporadicTask) (bound : ℕ → ℕ)
    (i start : ℕ) : Type 0 where
  pub span : ℕ
  pub least : IsLeastHit above tasks bound i span
  pub in_reach : start + span ≤ 1000000

-- job j is the first job of task i in the list
pub record IsFirstJob (jobs : List Job) (i j : ℕ) : Type 0 where
  pub is_job : j < length jobs
  pub mine : (job_at jobs j).task ≡ i
  pub none_before : (k : ℕ) → k < j → (job_at jobs k).task ≢ i

-- the first run of a guest in the worst case: over the worst pattern of a supply all tasks release
-- at its start, and the run ends `span` slots after that
pub record IsWorstRun (before : Job → Job → Bool) (tasks : List SporadicTask)
    (pattern : ℕ → Bool) (start span : ℕ) (run : List (Option ℕ)) : Type 0 where
  pub slots : List Bool
  pub worst : WorstList pattern start span slots
  pub first_run : FirstRun guest before tasks (synchronous tasks start span) slots run

-- there the first job of task i has the response t
pub record ShowsResponse (before : Job → Job → Bool) (tasks : List SporadicTask)
    (pattern : ℕ → Bool) (start span i t : ℕ) : Type 0 where
  pub run : List (Option ℕ)
  pub is_worst : IsWorstRun before tasks pattern start span run
  pub job : ℕ
  pub first_job : IsFirstJob (synchronous tasks start span) i job
  pub responds : IsResponse (synchronous tasks start span) run job t
