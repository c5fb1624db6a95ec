-- Where a run ends.
use Rattle.std.specs.Prelude.{◌≡◌, ℕ, ◌+◌, List, Option, Some}
use Rattle.slot_model.specs.Run.{held}

-- a run of n slots, the last of which job j has
abbrev pub EndsWith : List (Option ℕ) → ℕ → ℕ → Type 0
EndsWith run n j = (x : ℕ) × (x + 1 ≡ n) × (held run x ≡ Some j)
