-- The text of a guest that fits on no core.
use Rattle.std.specs.Prelude.{ℕ, List, ◌++◌, codes}

abbrev pub unplaced_text : List ℕ → List ℕ
unplaced_text name = codes "verdict=no\nunplaced " ++ (name ++ codes "\n")
