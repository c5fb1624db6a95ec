-- The text between two places.
use Rattle.std.specs.Prelude.{◌≡◌, ◌≤◌, ℕ, List, ◌++◌, drop}

-- the bytes between two places are this text
pub record Stands (bytes : List ℕ) (at to : ℕ) (text : List ℕ) : Type 0 where
  pub ahead : at ≤ to
  pub reads : drop at bytes ≡ text ++ drop to bytes
