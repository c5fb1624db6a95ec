-- What is counted of a level's run: the slots that it is given, the jobs that are released, those
-- that miss, the first miss.
use Rattle.std.specs.Prelude.{◌≡◌, ◌↔◌, ℕ, ◌<◌, nat_lt, min, Bool, List, length, slice_index_or, Option}
use Rattle.slot_model.specs.declared.job.Job.{Job}
use Rattle.slot_model.specs.Slots.{count_below, slots_between}
use Rattle.slot_model.specs.Task.{SporadicTask, job_at}
use Rattle.slot_model.specs.Run.{service}
use Rattle.slot_model.specs.Miss.{NoneMissed, IsFirstMiss, is_missed}
use Rattle.span_counts.specs.declared.counts.Counts.{Counts}

-- whether job j is released before a moment
abbrev pub is_early : List Job → ℕ → ℕ → Bool
is_early jobs n j = nat_lt (job_at jobs j).release n

-- the slots that each of n jobs gets before it is due and before m
pub record ServedTo (due : ℕ → ℕ) (n : ℕ) (run : List (Option ℕ)) (m : ℕ) (got : List ℕ)
    : Type 0 where
  pub long : length got ≡ n
  pub each : (j : ℕ) → j < n → slice_index_or got j 0 ≡ service run j (min (due j) m)

pub record AreCounts (tasks : List SporadicTask) (jobs : List Job) (slots : List Bool)
    (run : List (Option ℕ)) (counts : Counts) : Type 0 where
  pub given : counts.given ≡ slots_between slots 0 (length slots)
  pub released : counts.released ≡ count_below (is_early jobs (length slots)) (length jobs)
  pub missed : counts.missed ≡ count_below (is_missed tasks jobs run) (length jobs)
  pub none : (counts.missed ≡ 0) ↔ NoneMissed tasks jobs run
  pub first : IsFirstMiss tasks jobs run counts.first
