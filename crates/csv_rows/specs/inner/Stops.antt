-- The bytes at which the fields of a plain text may end.
use Rattle.std.specs.Prelude.{◌≡◌, ℕ, ◌<◌, ◌≤◌, Bool, false, nat_le, List, length, slice_index}

-- a byte that is no greater than a comma; a line feed is one
abbrev pub is_stop : ℕ → Bool
is_stop b = nat_le b 44

-- from one place of a text up to another no byte is a stop
pub record PassesNoStop (text : List ℕ) (from at : ℕ) : Type 0 where
  pub low : from ≤ at
  pub high : at ≤ length text
  pub passed : (k : ℕ) → from ≤ k → k < at → is_stop (slice_index text k) ≡ false
