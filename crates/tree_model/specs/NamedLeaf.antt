-- A leaf by its name.
use Rattle.std.specs.Prelude.{◌≡◌, ℕ, ◌<◌, true, List, length}
use Rattle.tree_model.specs.View.{SystemView}
use Rattle.tree_model.specs.System.{part_at, is_leaf_at}

-- part q is a leaf of that name
pub record IsLeafNamed (sys : SystemView) (name : List ℕ) (q : ℕ) : Type 0 where
  pub is_part : q < length sys.parts
  pub is_leaf : is_leaf_at sys q ≡ true
  pub is_named : (part_at sys q).name ≡ name
