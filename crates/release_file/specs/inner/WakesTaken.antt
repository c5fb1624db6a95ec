-- What is kept of the rows of a workload that were read.
use Rattle.std.specs.Prelude.{◌≡◌, ◌<◌, ◌==◌, ℕ, Bool, false, List, length, slice_index_or, Option, Some, None}
use Rattle.tree_model.specs.System.{IsSystem, part_names}
use Rattle.release_file.specs.declared.workload.Wake.{Wake}
use Rattle.release_file.specs.declared.wake_rows.WakeRows.{WakeRows}
use Rattle.release_file.specs.Workload.{last_row, is_of, IsWorkload}
use Rattle.release_file.specs.WorkloadFile.{slot_before, wakes_of}

abbrev pub last_at : List (Option Wake) → ℕ → Option Wake
last_at last v = slice_index_or last v None

-- the last row of a VCPU is at slot x
abbrev pub stands_at : Option Wake → ℕ → Bool
stands_at None x = false
stands_at (Some row) x = row.at == x

-- these rows are a workload, and of them the slot of the last and the last row of each VCPU are
-- kept
pub record IsBehind (wakes : List Wake) (rows : WakeRows) : Type 0 where
  pub workload : IsWorkload rows.sys.now wakes
  pub slot : rows.slot ≡ slot_before wakes (length wakes)
  pub room : length rows.last ≡ 512
  pub last : (v : ℕ) → v < 512 → last_at rows.last v ≡ last_row (is_of v) wakes (length wakes)

-- what the first value is once it has taken these rows
pub record HasTakenWakes (start now : WakeRows) (rows : List (List (List ℕ))) : Type 0 where
  pub system : IsSystem now.sys.now
  pub sys : now.sys ≡ start.sys
  pub parts : now.parts ≡ part_names now.sys.now.parts
  pub wakes : now.wakes.items ≡ wakes_of start.sys.now rows
  pub behind : IsBehind now.wakes.items now
