-- What is kept of the rows of a script that were read.
use Rattle.std.specs.Prelude.{◌≡◌, ◌<◌, ◌^◌, ℕ, List, length}
use Rattle.script_file.specs.declared.script_rows.ScriptRows.{ScriptRows}
use Rattle.script_file.specs.Script.{edits_of}

pub record HasTakenRows (start now : ScriptRows) (rows : List (List (List ℕ))) : Type 0 where
  pub edits : now.edits.items ≡ edits_of rows
  pub few : length now.edits.items < 2 ^ 32
