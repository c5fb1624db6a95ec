-- A reader of rows before the first one.
use Rattle.std.specs.Prelude.{◌≡◌, []}
use Rattle.tree_model.specs.View.{SystemView}
use Rattle.tree_model.specs.System.{IsSystem}
use Rattle.trace_file.specs.declared.row_reader.RowReader.{RowReader}
use Rattle.trace_file.specs.Named.{AreNames}
use Rattle.trace_file.specs.Rows.{IsAfter}

-- it was made over a system, and stands before the first row
pub record IsFresh (sys : SystemView) (r : RowReader) : Type 0 where
  pub sys_is : r.sys.now ≡ sys
  pub system : IsSystem sys
  pub names : AreNames r.sys.now r.names
  pub row : r.row ≡ 2
  pub after : IsAfter [] 0 r.rows
