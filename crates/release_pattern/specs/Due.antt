-- When the next job of a task is released, in slots after the start.
use Rattle.std.specs.Prelude.{◌≡◌, ℕ, ◌-◌, ◌^◌, ◌<◌, ◌≤◌, true, false, List, length}
use Rattle.slot_model.specs.Task.{SporadicTask, task_at}
use Rattle.slot_model.specs.Release.{releases_now}

-- no task releases from one moment up to another
abbrev pub NoneRelease : List SporadicTask → ℕ → ℕ → Type 0
NoneRelease tasks from until = (i y : ℕ) → i < length tasks → from ≤ y → y < until →
    releases_now (task_at tasks i) y ≡ false

-- n is the first moment from x on at which a task releases, as far as 64 bits tell it
pub record IsNext (task : SporadicTask) (x n : ℕ) : Type 0 where
  pub from : x ≤ n
  pub none : (y : ℕ) → x ≤ y → y < n → releases_now task y ≡ false
  pub due : n < 2 ^ 64 - 1 → releases_now task n ≡ true
