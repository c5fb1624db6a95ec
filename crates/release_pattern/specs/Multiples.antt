-- The jobs at each multiple of the periods.
use Rattle.std.specs.Prelude.{◌≡◌, ℕ, ◌<◌, List, [], length}
use Rattle.slot_model.specs.declared.job.Job.{Job}
use Rattle.slot_model.specs.Task.{SporadicTask, task_at}
use Rattle.slot_model.specs.Release.{staggered}

-- each task a job of its whole work at every multiple of its period below n, released as it
-- arrives, by release and then by place
abbrev pub at_multiples : List SporadicTask → ℕ → List Job
at_multiples tasks n = staggered tasks [] n

-- the tasks have no jitter
abbrev pub ArePrompt : List SporadicTask → Type 0
ArePrompt tasks = (i : ℕ) → i < length tasks → (task_at tasks i).jitter ≡ 0
