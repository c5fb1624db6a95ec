-- A window within which the task that all others rank above has a hit.
use Rattle.std.specs.Prelude.{ℕ, ◌<◌, ◌≤◌, Bool, List, length}
use Rattle.slot_model.specs.Task.{SporadicTask, task_at, room_of}
use Rattle.slot_model.specs.Bound.{IsHit}

-- each task whose deadline leaves as many slots past its jitter has a hit there
abbrev pub IsCommon : (ℕ → ℕ → Bool) → List SporadicTask → (ℕ → ℕ) → ℕ → Type 0
IsCommon above tasks bound t = (i : ℕ) → i < length tasks →
    t ≤ room_of (task_at tasks i) → IsHit above tasks bound i t
