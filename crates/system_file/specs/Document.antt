-- What stands at the keys of a system file, and the system that a document without faults spells. A
-- key that may be left out stands for its default; what is given for a value of another kind never
-- counts, since it is a fault.
use Rattle.std.specs.Prelude.{ℕ, ◌==◌, ℤ, pos, negsuc, Bool, false, if◌then◌else◌, List, [], ◌∷◌, map, position, codes, bytes_eq, Option, Some, None, option_map, unwrap_or}
use Rattle.slot_model.specs.declared.sched.Sched.{Sched}
use Rattle.slot_model.specs.declared.sched.Sched.TheVariants.{Edf, Rm, Dm, Listed}
use Rattle.toml.specs.Data.{Data, string, integer, boolean, array, Items, no_items, item, get}
use Rattle.tree_model.specs.declared.pinned_core.Core.{Core as CoreView}
use Rattle.tree_model.specs.declared.place.Parent.{Parent}
use Rattle.tree_model.specs.declared.place.Parent.TheVariants.{Core, Part}
use Rattle.tree_model.specs.View.{NamedTask, PartView, SystemView}
use Rattle.system_file.specs.declared.format.Format.{Format}
use Rattle.system_file.specs.declared.format.Format.TheVariants.{One, Two}

-- the elements of an array
abbrev pub elements_of : Items → List Data
elements_of no_items = []
elements_of (item d ds) = d ∷ elements_of ds

-- the array, the text, the number and the flag that stand at a key; where nothing does, no
-- elements, no bytes, 0 and false
abbrev pub array_of : Option Data → List Data
array_of (Some (array ds)) = elements_of ds
array_of _ = []

abbrev pub text_of : Option Data → List ℕ
text_of (Some (string s)) = s
text_of _ = []

abbrev pub number_of : Option Data → ℕ
number_of (Some (integer (pos n))) = n
number_of _ = 0

abbrev pub flag_of : Option Data → Bool
flag_of (Some (boolean b)) = b
flag_of _ = false

-- the number at a key that may be left out
abbrev pub given_number : Option Data → Option ℕ
given_number None = None
given_number (Some d) = Some (number_of (Some d))

-- the format of a number, and of a document
abbrev pub format_numbered : ℤ → Option Format
format_numbered (pos n) = if n == 1 then Some One else if n == 2 then Some Two else None
format_numbered (negsuc n) = None

abbrev pub format_at : Option Data → Format
format_at (Some (integer z)) = unwrap_or (format_numbered z) One
format_at _ = One

abbrev pub format_of : Data → Format
format_of top = format_at (get (codes "format") top)

-- the scheduler that a text names
abbrev pub sched_named : List ℕ → Option Sched
sched_named s =
    if bytes_eq s (codes "edf") then Some Edf
    else if bytes_eq s (codes "rm") then Some Rm
    else if bytes_eq s (codes "dm") then Some Dm
    else if bytes_eq s (codes "listed") then Some Listed
    else None

abbrev pub sched_at : Data → Sched
sched_at d = unwrap_or (sched_named (text_of (get (codes "sched") d))) Edf

-- whether a text stands at a key
abbrev pub is_text : List ℕ → Option Data → Bool
is_text s (Some (string t)) = bytes_eq s t
is_text s _ = false

-- whether a core, a part or a task has this name
abbrev pub is_named : List ℕ → Data → Bool
is_named name d = is_text name (get (codes "name") d)

-- the core or the part of a name, among these cores and these parts
abbrev pub core_or_part : Option ℕ → Option ℕ → Option Parent
core_or_part (Some c) part = Some (Core c)
core_or_part None part = option_map Part part

abbrev pub parent_named : List Data → List Data → List ℕ → Option Parent
parent_named cores parts name =
    core_or_part (position (is_named name) cores) (position (is_named name) parts)

-- the cores, the parts, and the tasks of a part
abbrev pub cores_of : Data → List Data
cores_of top = array_of (get (codes "core") top)

abbrev pub parts_of : Data → List Data
parts_of top = array_of (get (codes "part") top)

abbrev pub tasks_of : Data → List Data
tasks_of part = array_of (get (codes "task") part)

-- a task; its deadline is its period and its jitter 0 where none is given
abbrev pub deadline_of : Data → ℕ
deadline_of d =
    unwrap_or (given_number (get (codes "deadline") d)) (number_of (get (codes "period") d))

abbrev pub spelled_task : Data → NamedTask
spelled_task d = record {
  name = text_of (get (codes "name") d);
  task = record {
    period = number_of (get (codes "period") d);
    deadline = deadline_of d;
    work = number_of (get (codes "work") d);
    jitter = number_of (get (codes "jitter") d);
  };
}

-- a core's supply: full where neither key is given
abbrev pub supply_of : Option Data → Option Data → Option (ℕ × ℕ)
supply_of (Some period) (Some budget) = Some (number_of (Some period), number_of (Some budget))
supply_of _ _ = None

abbrev pub spelled_core : Data → CoreView
spelled_core d = record {
  name = text_of (get (codes "name") d);
  sched = sched_at d;
  supply = supply_of (get (codes "supply_period") d) (get (codes "supply_budget") d);
}

-- a part of these cores and parts
abbrev pub parent_at : List Data → List Data → Data → Parent
parent_at cores parts d =
    unwrap_or (parent_named cores parts (text_of (get (codes "parent") d))) (Core 0)

abbrev pub spelled_part : List Data → List Data → Data → PartView
spelled_part cores parts d = record {
  name = text_of (get (codes "name") d);
  parent = parent_at cores parts d;
  sched = sched_at d;
  period = number_of (get (codes "period") d);
  budget = given_number (get (codes "budget") d);
  extra = flag_of (get (codes "extra") d);
  tasks = map spelled_task (tasks_of d);
}

-- the system of a document
abbrev pub spelled_system : Data → SystemView
spelled_system top = record {
  cores = map spelled_core (cores_of top);
  parts = map (spelled_part (cores_of top) (parts_of top)) (parts_of top);
}
