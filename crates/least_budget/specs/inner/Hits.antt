-- The least budget with which one task has a hit.
use Rattle.std.specs.Prelude.{ℕ, ◌<◌, ◌≤◌, Bool, List}
use Rattle.slot_model.specs.Task.{SporadicTask}
use Rattle.slot_model.specs.Bound.{IsHit}

-- under a fixed rank a task has a hit
abbrev pub HasHit : (ℕ → ℕ → Bool) → List SporadicTask → (ℕ → ℕ) → ℕ → Type 0
HasHit above tasks bound i = (t : ℕ) × IsHit above tasks bound i t

-- the least budget up to the most, from one on, with which task i has a hit
pub record IsLeastOfTask (above : ℕ → ℕ → Bool) (tasks : List SporadicTask)
    (bound : ℕ → ℕ → ℕ) (most i from budget : ℕ) : Type 0 where
  pub not_below : from ≤ budget
  pub in_range : budget ≤ most
  pub enough : HasHit above tasks (bound budget) i
  pub least : (b : ℕ) → from ≤ b → b < budget → HasHit above tasks (bound b) i → ⊥
