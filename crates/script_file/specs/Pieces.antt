-- A text that is cut at each place of a byte.
use Rattle.std.specs.Prelude.{ℕ, ◌==◌, if◌then◌else◌, List, [], ◌∷◌}

-- a byte more in front of the first piece
abbrev pub put_front : ℕ → List (List ℕ) → List (List ℕ)
put_front b [] = (b ∷ []) ∷ []
put_front b (piece ∷ later) = (b ∷ piece) ∷ later

-- the pieces between the places of the byte: one more than there are such places
abbrev pub pieces : ℕ → List ℕ → List (List ℕ)
pieces at [] = [] ∷ []
pieces at (b ∷ bytes) = if b == at then [] ∷ pieces at bytes else put_front b (pieces at bytes)
