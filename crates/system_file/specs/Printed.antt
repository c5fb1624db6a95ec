-- The document that is printed for a system, table by table, and what a printer may rest on. What
-- is printed reads back, whatever its layout.
use Rattle.std.specs.Prelude.{ℕ, ◌==◌, pos, Bool, true, false, if◌then◌else◌, List, [], ◌∷◌, map, codes, Option, Some, None}
use Rattle.slot_model.specs.declared.sched.Sched.{Sched}
use Rattle.slot_model.specs.declared.sched.Sched.TheVariants.{Edf, Rm, Dm, Listed}
use Rattle.toml.specs.Data.{Data, string, integer, boolean, array, table, Members, no_members}
use Rattle.toml.specs.View.{items_of}
use Rattle.tree_model.specs.declared.pinned_core.Core.{Core as CoreView}
use Rattle.tree_model.specs.declared.place.Parent.{Parent}
use Rattle.tree_model.specs.declared.place.Parent.TheVariants.{Core, Part}
use Rattle.tree_model.specs.View.{NamedTask, PartView, SystemView}
use Rattle.tree_model.specs.System.{core_at, part_at}
use Rattle.toml_items.specs.Plain.{insert_member}
use Rattle.system_file.specs.SystemFile.{needed_format}
use Rattle.system_file.specs.declared.format.Format.{Format}
use Rattle.system_file.specs.declared.format.Format.TheVariants.{One, Two}

-- a member in the place of its key, where there is a value
abbrev pub with_some : List ℕ → Option Data → Members → Members
with_some k None ms = ms
with_some k (Some d) ms = insert_member k d ms

abbrev pub number : ℕ → Data
number n = integer (pos n)

-- what is written for a value that may be left out
abbrev pub other_number : ℕ → ℕ → Option Data
other_number usual n = if n == usual then None else Some (number n)

abbrev pub some_number : Option ℕ → Option Data
some_number None = None
some_number (Some n) = Some (number n)

abbrev pub true_flag : Bool → Option Data
true_flag true = Some (boolean true)
true_flag false = None

abbrev pub some_array : List Data → Option Data
some_array [] = None
some_array (d ∷ ds) = Some (array (items_of (d ∷ ds)))

abbrev pub sched_word : Sched → List ℕ
sched_word Edf = codes "edf"
sched_word Rm = codes "rm"
sched_word Dm = codes "dm"
sched_word Listed = codes "listed"

-- the supply of a core that is not full
abbrev pub with_supply : Option (ℕ × ℕ) → Members → Members
with_supply None ms = ms
with_supply (Some supply) ms =
    insert_member (codes "supply_budget") (number supply.1)
    (insert_member (codes "supply_period") (number supply.0) ms)

abbrev pub printed_core : CoreView → Data
printed_core core =
    table (with_supply core.supply
    (insert_member (codes "sched") (string (sched_word core.sched))
    (insert_member (codes "name") (string core.name) no_members)))

-- a task, whose deadline is written where it is not the period, and its jitter where it is not 0
abbrev pub task_members : NamedTask → Members
task_members t =
    with_some (codes "jitter") (other_number 0 t.task.jitter)
    (with_some (codes "deadline") (other_number t.task.period t.task.deadline)
    (insert_member (codes "work") (number t.task.work)
    (insert_member (codes "period") (number t.task.period)
    (insert_member (codes "name") (string t.name) no_members))))

abbrev pub printed_task : NamedTask → Data
printed_task t = table (task_members t)

-- the name of a parent
abbrev pub parent_name : SystemView → Parent → List ℕ
parent_name sys (Core c) = (core_at sys c).name
parent_name sys (Part q) = (part_at sys q).name

-- a part: what is always written, and then what may be left out where there is something to say
abbrev pub server_members : SystemView → PartView → Members
server_members sys part =
    insert_member (codes "period") (number part.period)
    (insert_member (codes "sched") (string (sched_word part.sched))
    (insert_member (codes "parent") (string (parent_name sys part.parent))
    (insert_member (codes "name") (string part.name) no_members)))

abbrev pub part_members : SystemView → PartView → Members
part_members sys part =
    with_some (codes "task") (some_array (map printed_task part.tasks))
    (with_some (codes "extra") (true_flag part.extra)
    (with_some (codes "budget") (some_number part.budget) (server_members sys part)))

abbrev pub printed_part : SystemView → PartView → Data
printed_part sys part = table (part_members sys part)

-- the number of a format
abbrev pub format_number : Format → ℕ
format_number One = 1
format_number Two = 2

-- the top table of a format, cores and parts
abbrev pub top_members : Format → List Data → List Data → Members
top_members format cores parts =
    with_some (codes "part") (some_array parts)
    (insert_member (codes "core") (array (items_of cores))
    (insert_member (codes "format") (number (format_number format)) no_members))

abbrev pub printed : SystemView → Members
printed sys =
    top_members (needed_format sys) (map printed_core sys.cores)
    (map (printed_part sys) sys.parts)
