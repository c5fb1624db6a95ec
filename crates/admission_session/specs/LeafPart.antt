-- A leaf as a part.
use Rattle.std.specs.Prelude.{Bool}
use Rattle.tree_model.specs.declared.place.Parent.{Parent}
use Rattle.tree_model.specs.View.{PartView}
use Rattle.admission_session.specs.LeafView.{LeafView}

-- the part that a leaf is on a parent
abbrev pub leaf_part : LeafView → Parent → Bool → PartView
leaf_part leaf parent extra =
    record {
      name = leaf.name;
      parent = parent;
      sched = leaf.sched;
      period = leaf.period;
      budget = leaf.budget;
      extra = extra;
      tasks = leaf.tasks;
    }
