-- Lists of windows that show a test's answer at a few points: a cover, that no window is short; a
-- chain, that a task has no hit.
use Rattle.std.specs.Prelude.{◌≡◌, ℕ, ◌+◌, ◌-◌, ◌<◌, ◌≤◌, Bool, List, length, slice_index}
use Rattle.std.specs.List.Sorted.{IsStrictlyIncreasing}
use Rattle.slot_model.specs.Task.{SporadicTask, task_at, room_of}
use Rattle.slot_model.specs.Bound.{dbf, rbf}

-- A cover of all windows up to h: below its first point nothing is asked for, what is asked for
-- just below each later point the supply gives at the point before it, and its last is past h.
pub record IsCover (tasks : List SporadicTask) (bound : ℕ → ℕ) (h : ℕ)
    (points : List ℕ) : Type 0 where
  pub some_point : 1 ≤ length points
  pub some_slots : 1 ≤ slice_index points 0
  pub none_before : dbf tasks (slice_index points 0 - 1) ≡ 0
  pub rising : IsStrictlyIncreasing points
  pub steps : (j : ℕ) → j + 1 < length points →
      dbf tasks (slice_index points (j + 1) - 1) ≤ bound (slice_index points j)
  pub past : h < slice_index points (length points - 1)

-- The cover of the walk backwards: its last point is h + 1, and each other point is the least
-- whose bound is enough up to the next one. With `IsCover` this leaves one list: only below the
-- first point nothing is asked for.
pub record IsBackward (tasks : List SporadicTask) (bound : ℕ → ℕ) (h : ℕ)
    (points : List ℕ) : Type 0 where
  pub ends : slice_index points (length points - 1) ≡ h + 1
  pub least : (j u : ℕ) → j + 1 < length points → u < slice_index points j →
      bound u < dbf tasks (slice_index points (j + 1) - 1)

-- a cover up to h shows that no window of 1 to h slots is short
abbrev pub CoversShow : List SporadicTask → (ℕ → ℕ) → ℕ → Type 0
CoversShow tasks bound h =
    (points : List ℕ) → IsCover tasks bound h points →
    (t : ℕ) → 1 ≤ t → t ≤ h → dbf tasks t ≤ bound t

-- A chain from 1 to just past what the deadline of task i leaves past its jitter: what is
-- requested for it at each point is more than the supply gives just below the next.
pub record IsChain (above : ℕ → ℕ → Bool) (tasks : List SporadicTask) (bound : ℕ → ℕ) (i : ℕ)
    (falls : List ℕ) : Type 0 where
  pub some_point : 1 ≤ length falls
  pub from_one : slice_index falls 0 ≡ 1
  pub rising : IsStrictlyIncreasing falls
  pub steps : (j : ℕ) → j + 1 < length falls →
      bound (slice_index falls (j + 1) - 1) < rbf above tasks i (slice_index falls j)
  pub to_deadline : slice_index falls (length falls - 1) ≡ room_of (task_at tasks i) + 1
