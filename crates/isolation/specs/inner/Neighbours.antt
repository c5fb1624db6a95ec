-- The VCPUs of each core, one behind the other in file order.
use Rattle.std.specs.Prelude.{◌≡◌, ℕ, suc, ◌<◌, ◌≤◌, true, false, length, slice_index_or}
use Rattle.tree_model.specs.declared.place.Place.TheVariants.{Core}
use Rattle.tree_model.specs.View.{SystemView}
use Rattle.tree_model.specs.Tree.{is_child}
use Rattle.isolation.specs.declared.neighbours.Neighbours.{Neighbours}

-- of the parts from a place on, the first that stands on core c, and the number of parts where
-- none does
pub record IsNextOn (sys : SystemView) (c from next : ℕ) : Type 0 where
  pub behind : from ≤ next
  pub within : next ≤ length sys.parts
  pub here : next < length sys.parts → is_child sys (Core c) next ≡ true
  pub none : (u : ℕ) → from ≤ u → u < next → is_child sys (Core c) u ≡ false

-- those of the parts from a place on
pub record AreNeighboursFrom (sys : SystemView) (neighbours : Neighbours) (from : ℕ) : Type 0 where
  pub all_cores : length neighbours.first ≡ 64
  pub all_parts : length neighbours.next ≡ 512
  pub first : (c : ℕ) → c < length sys.cores →
      IsNextOn sys c from (slice_index_or neighbours.first c 0)
  pub next : (c v : ℕ) → from ≤ v → v < length sys.parts → is_child sys (Core c) v ≡ true →
      IsNextOn sys c (suc v) (slice_index_or neighbours.next v 0)

-- of each core all
abbrev pub AreNeighbours : SystemView → Neighbours → Type 0
AreNeighbours sys neighbours = AreNeighboursFrom sys neighbours 0
