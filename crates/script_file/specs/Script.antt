-- The edits that the records of a script spell. A record is a list of fields, and a field
-- a list of bytes.
use Rattle.std.specs.Prelude.{◌≡◌, ℕ, ◌+◌, Bool, true, false, not, ◌&&◌, nat_le, nat_lt, if◌then◌else◌, List, [], ◌∷◌, length, map, Option, Some, None, is_some, unwrap_or, option_map, codes, bytes_eq}
use Rattle.std.specs.Option.{option_zip}
use Rattle.slot_model.specs.declared.sched.Sched.{Sched}
use Rattle.slot_model.specs.declared.task.TheConstants.{LIMIT}
use Rattle.slot_model.specs.Name.{is_name}
use Rattle.slot_model.specs.Task.{SporadicTask, jittery_task}
use Rattle.tree_model.specs.View.{NamedTask}
use Rattle.csv_rows.specs.Decimal.{is_plain, number}
use Rattle.csv_rows.specs.Rules.{RulesOf, RowsKeep, IsFirstFault, row_of, fault_if}
use Rattle.system_file.specs.Document.{sched_named}
use Rattle.admission_session.specs.declared.op.Op.{Op}
use Rattle.admission_session.specs.declared.op.Op.TheVariants.{Add as Adds, Remove as Removes, Change as Changes}
use Rattle.admission_session.specs.declared.edit.Edit.{Edit}
use Rattle.admission_session.specs.declared.edit.Edit.TheVariants.{Add, Remove, Change}
use Rattle.admission_session.specs.LeafView.{LeafView}
use Rattle.admission_session.specs.RowView.{RowView}
use Rattle.admission_session.specs.Rows.{as_row}
use Rattle.script_file.specs.declared.fault.ScriptFault.{ScriptFault}
use Rattle.script_file.specs.declared.fault.ScriptFault.TheVariants.{BadHeader, BadRow}
use Rattle.script_file.specs.Pieces.{pieces}

abbrev pub is_empty : List ℕ → Bool
is_empty [] = true
is_empty (b ∷ bytes) = false

-- what a field may say, and leaves open where it is empty
abbrev pub optional : {A : Type 0} → (List ℕ → Option A) → List ℕ → Option (Option A)
optional reads field = if is_empty field then Some None else option_map Some (reads field)

-- a name, and a plain decimal number of 64 bits
abbrev pub name_in : List ℕ → Option (List ℕ)
name_in field = if is_name field then Some field else None

abbrev pub number_in : List ℕ → Option ℕ
number_in field =
    if is_plain field && nat_lt (number field) 18446744073709551616 then Some (number field)
    else None

-- numbers that make a task
abbrev pub is_sound : SporadicTask → Bool
is_sound task =
    nat_le 1 task.work && nat_le (task.work + task.jitter) task.deadline
    && nat_le task.deadline task.period && nat_le task.period LIMIT

abbrev pub sound_task : SporadicTask → Option SporadicTask
sound_task task = if is_sound task then Some task else None

-- the task of a period, a deadline, jitter and work, where all are there and make one
abbrev pub task_of : Option ℕ → Option ℕ → Option ℕ → Option ℕ → Option SporadicTask
task_of (Some period) (Some deadline) (Some jitter) (Some work) =
    sound_task (jittery_task period deadline work jitter)
task_of _ _ _ _ = None

abbrev pub named_task : Option SporadicTask → Option (List ℕ) → Option NamedTask
named_task (Some task) (Some name) = Some (record { name = name; task = task })
named_task _ _ = None

-- a task is spelled NAME:PERIOD:DEADLINE:JITTER:WORK
abbrev pub numbers_in : List (List ℕ) → Option SporadicTask
numbers_in (name ∷ period ∷ deadline ∷ jitter ∷ work ∷ []) =
    task_of (number_in period) (number_in deadline) (number_in jitter) (number_in work)
numbers_in _ = None

abbrev pub first_field : List (List ℕ) → List ℕ
first_field [] = []
first_field (field ∷ later) = field

abbrev pub task_in : List ℕ → Option NamedTask
task_in text = named_task (numbers_in (pieces 58 text)) (name_in (first_field (pieces 58 text)))

-- tasks are joined by semicolons, and an empty list has none
abbrev pub all_there : {A : Type 0} → List (Option A) → Option (List A)
all_there [] = Some []
all_there (None ∷ later) = None
all_there (Some x ∷ later) = option_map (λ xs. x ∷ xs) (all_there later)

abbrev pub tasks_in : List ℕ → Option (List NamedTask)
tasks_in [] = Some []
tasks_in (b ∷ bytes) = all_there (map task_in (pieces 59 (b ∷ bytes)))

-- the three words
abbrev pub op_named : List ℕ → Option Op
op_named word =
    if bytes_eq word (codes "add") then Some Adds
    else if bytes_eq word (codes "remove") then Some Removes
    else if bytes_eq word (codes "change") then Some Changes
    else None

-- a leaf: a scheduler as a system file names it, a period, a budget that may be left to be
-- computed, tasks and a name
abbrev pub leaf_of
    : Option (Sched × (ℕ × Option ℕ)) → Option (List NamedTask) → Option (List ℕ)
    → Option LeafView
leaf_of (Some (sched, (period, budget))) (Some tasks) (Some name) =
    Some (record { name = name; sched = sched; period = period; budget = budget; tasks = tasks })
leaf_of _ _ _ = None

abbrev pub served_in : List ℕ → List ℕ → List ℕ → Option (Sched × (ℕ × Option ℕ))
served_in sched period budget =
    option_zip (sched_named sched) (option_zip (number_in period) (optional number_in budget))

abbrev pub leaf_in : List ℕ → List ℕ → List ℕ → List ℕ → List ℕ → Option LeafView
leaf_in part sched period budget tasks =
    leaf_of (served_in sched period budget) (tasks_in tasks) (name_in part)

abbrev pub is_bare : List ℕ → List ℕ → List ℕ → List ℕ → List ℕ → Bool
is_bare parent sched period budget tasks =
    is_empty parent && is_empty sched && is_empty period && is_empty budget && is_empty tasks

abbrev pub addition : Option (Option (List ℕ)) → Option LeafView → Option Edit
addition (Some parent) (Some leaf) = Some (Add leaf parent)
addition _ _ = None

-- what the fields beside the operation spell: of an addition all but parent, budget and tasks has
-- to be filled, of a change the parent may not be, and of a removal the part is all
abbrev pub edit_of_op
    : Option Op → List ℕ → List ℕ → List ℕ → List ℕ → List ℕ → List ℕ → Option Edit
edit_of_op None part parent sched period budget tasks = None
edit_of_op (Some Adds) part parent sched period budget tasks =
    addition (optional name_in parent) (leaf_in part sched period budget tasks)
edit_of_op (Some Removes) part parent sched period budget tasks =
    if is_bare parent sched period budget tasks then option_map Remove (name_in part) else None
edit_of_op (Some Changes) part parent sched period budget tasks =
    if is_empty parent then option_map Change (leaf_in part sched period budget tasks) else None

-- the edit that a record spells, which has seven fields
abbrev pub edit_in : List (List ℕ) → Option Edit
edit_in (op ∷ part ∷ parent ∷ sched ∷ period ∷ budget ∷ tasks ∷ []) =
    edit_of_op (op_named op) part parent sched period budget tasks
edit_in _ = None

-- a row spells one
abbrev pub is_row : List (List ℕ) → Bool
is_row fields = is_some (edit_in fields)

abbrev pub edit_of : List (List ℕ) → Edit
edit_of fields = unwrap_or (edit_in fields) (Remove [])

abbrev pub edits_of : List (List (List ℕ)) → List Edit
edits_of rows = map edit_of rows

-- the first rule that a row breaks behind these
abbrev pub script_rules : RulesOf ScriptFault
script_rules rows row = fault_if (not (is_row row)) (BadRow (row_of (length rows))) None

-- the names of the columns, and the rows behind them
abbrev pub is_script_header : List (List ℕ) → Bool
is_script_header (op ∷ part ∷ parent ∷ sched ∷ period ∷ budget ∷ tasks ∷ []) =
    bytes_eq op (codes "op") && bytes_eq part (codes "part") && bytes_eq parent (codes "parent")
    && bytes_eq sched (codes "sched") && bytes_eq period (codes "period")
    && bytes_eq budget (codes "budget") && bytes_eq tasks (codes "tasks")
is_script_header _ = false

abbrev pub script_rows : List (List (List ℕ)) → Option (List (List (List ℕ)))
script_rows [] = None
script_rows (header ∷ rows) = if is_script_header header then Some rows else None

-- the records spell these edits
pub record SpellsScript (records : List (List (List ℕ))) (edits : List Edit) : Type 0 where
  pub rows : List (List (List ℕ))
  pub header : script_rows records ≡ Some rows
  pub keep : RowsKeep script_rules rows (length rows)
  pub edits_are : edits ≡ edits_of rows

-- and these rows, one of each edit
pub record SpellsRows (records : List (List (List ℕ))) (rows : List RowView) : Type 0 where
  pub edits : List Edit
  pub spelled : SpellsScript records edits
  pub rows_are : rows ≡ map as_row edits

-- or this is their first fault: of the header, or of the first row that breaks a rule
abbrev pub IsScriptFault : Option (List (List (List ℕ))) → ScriptFault → Type 0
IsScriptFault None fault = fault ≡ BadHeader
IsScriptFault (Some rows) fault = IsFirstFault script_rules rows fault
