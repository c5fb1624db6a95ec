-- The budgets that one window cuts off.
use Rattle.std.specs.Prelude.{ℕ, ◌<◌, ◌≤◌}

-- the least budget from `low` to `high` whose bound at t is enough for what is asked for there
pub record IsLeastAt (bound : ℕ → ℕ → ℕ) (t asked low high budget : ℕ) : Type 0 where
  pub not_below : low ≤ budget
  pub in_range : budget ≤ high
  pub enough : asked ≤ bound budget t
  pub least : (b : ℕ) → low ≤ b → b < budget → bound b t < asked
