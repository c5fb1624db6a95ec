-- A row and its edit say the same.
use Rattle.std.proofs.Common.{◌≡◌, refl}
use Rattle.admission_session.specs.declared.op.Op.{Op}
use Rattle.admission_session.specs.declared.op.Op.TheVariants.{Add as Adds, Remove as Removes, Change as Changes}
use Rattle.admission_session.specs.declared.edit.Edit.{Edit}
use Rattle.admission_session.specs.declared.edit.Edit.TheVariants.{Add, Remove, Change}
use Rattle.admission_session.specs.RowView.{RowView}
use Rattle.admission_session.specs.Rows.{as_edit, as_row, edit_by}
use Rattle.admission_session.specs.Edits.{name_of}

-- the row of an edit spells that edit
pub row_spells : (edit : Edit) → as_edit (as_row edit) ≡ edit
row_spells (Add leaf parent) = refl
row_spells (Remove name) = refl
row_spells (Change leaf) = refl

-- an edit has the name of its row
named_by : (op : Op) (row : RowView) → name_of (edit_by op row) ≡ row.name
named_by Adds row = refl
named_by Removes row = refl
named_by Changes row = refl

pub row_name : (row : RowView) → name_of (as_edit row) ≡ row.name
row_name row = named_by row.op row
