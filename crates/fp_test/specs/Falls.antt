-- The falls of a task that has no hit: windows at which the supply falls short of what is
-- requested.
use Rattle.std.specs.Prelude.{◌≡◌, ℕ, ◌+◌, ◌-◌, ◌<◌, ◌≤◌, Bool, List, length, slice_index}
use Rattle.std.specs.List.Sorted.{IsStrictlyIncreasing}
use Rattle.slot_model.specs.Task.{SporadicTask, room_of, task_at}
use Rattle.slot_model.specs.Bound.{rbf, IsShortTask}
use Rattle.slot_model.specs.Points.{IsChain}

-- The least window that gives what is requested at `from`; the first past what the deadline leaves
-- past the jitter where that is sooner, or no window gives it.
pub record IsNextFall
    (above : ℕ → ℕ → Bool) (tasks : List SporadicTask) (bound : ℕ → ℕ) (i from to : ℕ)
    : Type 0 where
  pub within : to ≤ room_of (task_at tasks i) + 1
  pub below : (t : ℕ) → t < to → bound t < rbf above tasks i from
  pub gives : to ≤ room_of (task_at tasks i) → rbf above tasks i from ≤ bound to

-- From 1 on, each is the next after the one before, up to the first past what the deadline leaves
-- past the jitter. This leaves one list.
pub record AreFalls
    (above : ℕ → ℕ → Bool) (tasks : List SporadicTask) (bound : ℕ → ℕ) (i : ℕ) (falls : List ℕ)
    : Type 0 where
  pub some_point : 1 ≤ length falls
  pub from_one : slice_index falls 0 ≡ 1
  pub rising : IsStrictlyIncreasing falls
  pub steps : (j : ℕ) → j + 1 < length falls →
      IsNextFall above tasks bound i (slice_index falls j) (slice_index falls (j + 1))
  pub to_deadline : slice_index falls (length falls - 1) ≡ room_of (task_at tasks i) + 1

-- a chain for task i shows that it has no hit
abbrev pub ChainsShow : (ℕ → ℕ → Bool) → List SporadicTask → (ℕ → ℕ) → ℕ → Type 0
ChainsShow above tasks bound i =
    (falls : List ℕ) → IsChain above tasks bound i falls → IsShortTask above tasks bound i
