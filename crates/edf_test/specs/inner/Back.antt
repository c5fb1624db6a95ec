-- The least window that is enough for what a window asks for.
use Rattle.std.specs.Prelude.{ℕ, ◌<◌, ◌≤◌, List}
use Rattle.slot_model.specs.Task.{SporadicTask}
use Rattle.slot_model.specs.Bound.{dbf}

-- the least window whose bound is enough for what t slots ask for, if that is no more
-- than t slots themselves
pub record IsGivenBy (tasks : List SporadicTask) (bound : ℕ → ℕ) (t given : ℕ) : Type 0 where
  pub within : given ≤ t
  pub enough : dbf tasks t ≤ bound given
  pub least : (u : ℕ) → u < given → bound u < dbf tasks t
