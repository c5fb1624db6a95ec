-- The least hit of a task.
use Rattle.std.specs.Prelude.{ℕ, ◌<◌, Bool, List, Option, MatchOption}
use Rattle.slot_model.specs.Task.{SporadicTask}
use Rattle.slot_model.specs.Bound.{IsHit, IsShortTask}

-- a hit of task i with none below it
abbrev pub IsLeastHit : (ℕ → ℕ → Bool) → List SporadicTask → (ℕ → ℕ) → ℕ → ℕ → Type 0
IsLeastHit above tasks bound i t =
    IsHit above tasks bound i t × ((u : ℕ) → u < t → IsHit above tasks bound i u → ⊥)

-- the answer is the least hit of task i, or none where the task has no hit
abbrev pub AnswersLeastHit :
    (ℕ → ℕ → Bool) → List SporadicTask → (ℕ → ℕ) → ℕ → Option ℕ → Type 0
AnswersLeastHit above tasks bound i answer =
    MatchOption answer (IsShortTask above tasks bound i) (IsLeastHit above tasks bound i)
