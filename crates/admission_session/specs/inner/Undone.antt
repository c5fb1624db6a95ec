-- How an edit is undone, and how a leaf is put on another core.
use Rattle.std.specs.Prelude.{ℕ, ◌+◌, ◌-◌, ◌<◌, nat_le, if◌then◌else◌, length, map}
use Rattle.std.specs.List.{insert, remove}
use Rattle.tree_model.specs.declared.place.Parent.{Parent}
use Rattle.tree_model.specs.declared.place.Parent.TheVariants.{Core, Part}
use Rattle.tree_model.specs.View.{PartView, SystemView}
use Rattle.tree_model.specs.System.{part_at}
use Rattle.admission_session.specs.Leaves.{on_parent, with_changed}

-- it is put on another core
abbrev pub moved_to : SystemView → ℕ → ℕ → SystemView
moved_to sys q c = with_changed sys q (on_parent (part_at sys q) (Core c))

-- and back: the last part is taken off again, and a leaf is put in the place from which it was
-- taken, from which on the parts rise by one place, for their children too
abbrev pub without_last : SystemView → SystemView
without_last sys =
    record { cores = sys.cores; parts = remove sys.parts (length sys.parts - 1) }

abbrev pub risen : ℕ → Parent → Parent
risen q (Core c) = Core c
risen q (Part r) = Part (if nat_le q r then r + 1 else r)

abbrev pub CanRise : Parent → Type 0
CanRise (Core c) = Unit {0}
CanRise (Part r) = r < 512

abbrev pub risen_part : ℕ → PartView → PartView
risen_part q part = on_parent part (risen q part.parent)

abbrev pub with_leaf_back : SystemView → ℕ → PartView → SystemView
with_leaf_back sys q leaf =
    record { cores = sys.cores; parts = insert (map (risen_part q) sys.parts) q leaf }
