-- Windows within the room of a task.
use Rattle.std.specs.Prelude.{ℕ, ◌≤◌, Option, Some, None}

-- there is a window, and the room reaches it
abbrev pub IsWithin : ℕ → Option ℕ → Type 0
IsWithin room None = ⊥
IsWithin room (Some t) = t ≤ room
