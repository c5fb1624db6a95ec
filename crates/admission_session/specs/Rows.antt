-- Edits as rows, which have a field for each column of a script.
use Rattle.std.specs.Prelude.{ℕ, List, [], Option, None}
use Rattle.slot_model.specs.declared.sched.Sched.TheVariants.{Edf}
use Rattle.admission_session.specs.declared.op.Op.{Op}
use Rattle.admission_session.specs.declared.op.Op.TheVariants.{Add as Adds, Remove as Removes, Change as Changes}
use Rattle.admission_session.specs.declared.edit.Edit.{Edit}
use Rattle.admission_session.specs.declared.edit.Edit.TheVariants.{Add, Remove, Change}
use Rattle.admission_session.specs.LeafView.{LeafView}
use Rattle.admission_session.specs.RowView.{RowView}

-- the row of an operation on a leaf
abbrev pub leaf_row : Op → LeafView → Option (List ℕ) → RowView
leaf_row op leaf parent =
    record {
      op = op;
      name = leaf.name;
      parent = parent;
      sched = leaf.sched;
      period = leaf.period;
      budget = leaf.budget;
      tasks = leaf.tasks;
    }

-- the row of an edit; where a leaf is taken out there is nothing to be said but its name
abbrev pub as_row : Edit → RowView
as_row (Add leaf parent) = leaf_row Adds leaf parent
as_row (Remove name) =
    record {
      op = Removes;
      name = name;
      parent = None;
      sched = Edf;
      period = 1;
      budget = None;
      tasks = [];
    }
as_row (Change leaf) = leaf_row Changes leaf None

-- and the edit of a row
abbrev pub row_leaf : RowView → LeafView
row_leaf row =
    record {
      name = row.name;
      sched = row.sched;
      period = row.period;
      budget = row.budget;
      tasks = row.tasks;
    }

abbrev pub edit_by : Op → RowView → Edit
edit_by Adds row = Add (row_leaf row) row.parent
edit_by Removes row = Remove row.name
edit_by Changes row = Change (row_leaf row)

abbrev pub as_edit : RowView → Edit
as_edit row = edit_by row.op row
