-- Lists of lists.
use Rattle.std.specs.Prelude.{ℕ, List, [], map, slice_index_or}
use Rattle.std.specs.Global.{Vec}

-- the list of core c
abbrev pub list_at : {X : Type 0} → List (Vec X) → ℕ → List X
list_at {X} lists c = slice_index_or (map (λ (list : Vec X). list.items) lists) c []
