-- Faults of system files worked out by the checker: of two neighbouring keys with faults that of
-- the earlier one is told, and each fault with its own place.
use Rattle.std.specs.Prelude.{◌≡◌, codes, List, ℕ, zero, suc, pos, true, false, Result, Err, Some, refl}
use Rattle.toml.specs.Data.{Data, string, integer, boolean, array, table, Items, no_items, item, Members, no_members, member}
use Rattle.tree_model.specs.View.{SystemView}
use Rattle.system_file.specs.declared.fault.Spot.TheVariants.{Top, Core, Part, Task}
use Rattle.system_file.specs.declared.fault.SystemFault.{SystemFault}
use Rattle.system_file.specs.declared.fault.SystemFault.TheVariants.{MissingKey, WrongKind, UnknownKey, BadName, NameTaken, OutOfRange, NoSuchParent, Empty, TooMany}
use Rattle.system_file.specs.SystemFile.{system_of_document}

abbrev whole : ℕ → Data
whole n = integer (pos n)

abbrev word : List ℕ → Data
word s = string s

-- elements that are no tables, as many as are said
abbrev copies : ℕ → Items
copies zero = no_items
copies (suc n) = item (boolean false) (copies n)

-- what is read of a document
abbrev read_of : Members → Result SystemView SystemFault
read_of top = system_of_document (Some top)

abbrev of_top : (core format part : Data) → Result SystemView SystemFault
of_top core format part =
    read_of (member (codes "core") core (member (codes "format") format (member (codes "part") part no_members)))

-- a core, with what is written of its supply
abbrev core_of : (name sched : Data) → Members → Data
core_of name sched supply = table (member (codes "name") name (member (codes "sched") sched supply))

abbrev supply : (period budget : Data) → Members
supply period budget = member (codes "supply_budget") budget (member (codes "supply_period") period no_members)

abbrev cpu0 : Data
cpu0 = core_of (word (codes "cpu0")) (word (codes "edf")) no_members

abbrev of_cores : Items → Result SystemView SystemFault
of_cores cores = of_top (array cores) (whole 1) (array no_items)

-- a part with just these tasks, and a good one
abbrev part_of : (budget name parent period sched : Data) → Items → Data
part_of budget name parent period sched tasks =
    table (member (codes "budget") budget (member (codes "name") name (member (codes "parent") parent
    (member (codes "period") period (member (codes "sched") sched (member (codes "task") (array tasks) no_members))))))

abbrev part_on : (name parent : List ℕ) → Items → Data
part_on name parent = part_of (whole 5) (word name) (word parent) (whole 10) (word (codes "rm"))

abbrev of_parts : Items → Result SystemView SystemFault
of_parts parts = of_top (array (item cpu0 no_items)) (whole 1) (array parts)

abbrev of_part : Data → Result SystemView SystemFault
of_part part = of_parts (item part no_items)

-- a task with a deadline, and a good one
abbrev task_of : (deadline name period work : Data) → Data
task_of deadline name period work =
    table (member (codes "deadline") deadline (member (codes "name") name
    (member (codes "period") period (member (codes "work") work no_members))))

abbrev good_task : List ℕ → Data
good_task name = task_of (whole 10) (word name) (whole 10) (whole 1)

abbrev of_task : Data → Result SystemView SystemFault
of_task t = of_part (part_on (codes "x") (codes "cpu0") (item t no_items))

-- the top table
keys_of_the_top : (read_of (member (codes "colour") (whole 1) (member (codes "format") (whole 3) no_members))
    ≡ Err (UnknownKey Top))
    × (read_of (member (codes "core") (whole 1) no_members) ≡ Err (MissingKey Top))
    × (read_of (member (codes "format") (whole 1) no_members) ≡ Err (MissingKey Top))
    × (of_top (whole 1) (whole 3) (whole 1) ≡ Err (OutOfRange Top))
    × (of_top (whole 1) (whole 1) (array (copies 513)) ≡ Err (WrongKind Top))
    × (of_top (array (copies 65)) (whole 1) (whole 1) ≡ Err (TooMany Top))
keys_of_the_top = (refl, refl, refl, refl, refl, refl)

-- and its arrays before what is in them
arrays_before_their_elements : (of_top (array (copies 1)) (whole 1) (whole 1) ≡ Err (WrongKind Top))
    × (of_top (array (copies 1)) (whole 1) (array (copies 513)) ≡ Err (TooMany Top))
    × (of_top (array (copies 64)) (whole 1) (array (copies 512)) ≡ Err (WrongKind (Core 0)))
    × (of_top (array (item cpu0 no_items)) (whole 1) (array (copies 512)) ≡ Err (WrongKind (Part 0)))
arrays_before_their_elements = (refl, refl, refl, refl)

-- a core
the_name_of_a_core_before_its_sched :
    (of_cores (item (core_of (word (codes "0")) (whole 1) no_members) no_items) ≡ Err (BadName (Core 0)))
    × (of_cores (item (core_of (whole 1) (word (codes "fifo")) no_members) no_items) ≡ Err (WrongKind (Core 0)))
the_name_of_a_core_before_its_sched = (refl, refl)

the_sched_of_a_core_before_its_supply :
    of_cores (item (core_of (word (codes "cpu0")) (whole 1) (supply (whole 0) (whole 1))) no_items)
    ≡ Err (WrongKind (Core 0))
the_sched_of_a_core_before_its_supply = refl

abbrev supplied : (period budget : Data) → Result SystemView SystemFault
supplied period budget =
    of_cores (item (core_of (word (codes "cpu0")) (word (codes "edf")) (supply period budget)) no_items)

the_supply_period_before_the_supply_budget : (supplied (whole 0) (word (codes "1")) ≡ Err (OutOfRange (Core 0)))
    × (supplied (word (codes "8")) (whole 9) ≡ Err (WrongKind (Core 0)))
    × (supplied (whole 8) (whole 9) ≡ Err (OutOfRange (Core 0)))
the_supply_period_before_the_supply_budget = (refl, refl, refl)

cores_in_their_order : (of_cores (item cpu0 (item cpu0 no_items)) ≡ Err (NameTaken (Core 1)))
    × (of_cores (item cpu0 (item (boolean true) no_items)) ≡ Err (WrongKind (Core 1)))
    × (of_cores (item (core_of (word (codes "0")) (word (codes "edf")) no_members) (item (boolean true) no_items))
    ≡ Err (BadName (Core 0)))
cores_in_their_order = (refl, refl, refl)

-- a part: each key before the one behind it
the_name_of_a_part_before_its_parent :
    (of_part (part_on (codes "0") (codes "nobody") no_items) ≡ Err (BadName (Part 0)))
    × (of_part (part_on (codes "cpu0") (codes "nobody") no_items) ≡ Err (NameTaken (Part 0)))
    × (of_part (part_on (codes "x") (codes "x") no_items) ≡ Err (NoSuchParent (Part 0)))
the_name_of_a_part_before_its_parent = (refl, refl, refl)

the_parent_before_the_sched :
    (of_part (part_of (whole 5) (word (codes "x")) (word (codes "nobody")) (whole 10) (whole 1) no_items)
    ≡ Err (NoSuchParent (Part 0)))
    × (of_part (part_of (whole 5) (word (codes "x")) (whole 1) (whole 10) (word (codes "fifo")) no_items)
    ≡ Err (WrongKind (Part 0)))
the_parent_before_the_sched = (refl, refl)

abbrev of_server : (budget period sched : Data) → Result SystemView SystemFault
of_server budget period sched =
    of_part (part_of budget (word (codes "x")) (word (codes "cpu0")) period sched no_items)

the_sched_before_the_period :
    (of_server (whole 5) (word (codes "10")) (word (codes "fifo")) ≡ Err (OutOfRange (Part 0)))
    × (of_server (whole 5) (whole 0) (whole 1) ≡ Err (WrongKind (Part 0)))
the_sched_before_the_period = (refl, refl)

the_period_before_the_budget :
    (of_server (word (codes "5")) (whole 0) (word (codes "rm")) ≡ Err (OutOfRange (Part 0)))
    × (of_server (whole 5) (word (codes "10")) (word (codes "rm")) ≡ Err (WrongKind (Part 0)))
the_period_before_the_budget = (refl, refl)

-- a task: the same
the_name_of_a_task_before_its_period :
    (of_task (task_of (whole 10) (word (codes "0")) (word (codes "10")) (whole 1)) ≡ Err (BadName (Task 0 0)))
    × (of_task (task_of (whole 10) (whole 1) (whole 0) (whole 1)) ≡ Err (WrongKind (Task 0 0)))
the_name_of_a_task_before_its_period = (refl, refl)

the_period_before_the_deadline :
    (of_task (task_of (word (codes "10")) (word (codes "t")) (whole 0) (whole 1)) ≡ Err (OutOfRange (Task 0 0)))
    × (of_task (task_of (whole 10) (word (codes "t")) (word (codes "10")) (whole 1)) ≡ Err (WrongKind (Task 0 0)))
the_period_before_the_deadline = (refl, refl)

the_deadline_before_the_work :
    (of_task (task_of (whole 11) (word (codes "t")) (whole 10) (word (codes "1"))) ≡ Err (OutOfRange (Task 0 0)))
    × (of_task (task_of (word (codes "9")) (word (codes "t")) (whole 10) (whole 11)) ≡ Err (WrongKind (Task 0 0)))
the_deadline_before_the_work = (refl, refl)

tasks_in_their_order :
    (of_part (part_on (codes "x") (codes "cpu0") (item (good_task (codes "t")) (item (boolean true) no_items)))
    ≡ Err (WrongKind (Task 0 1)))
    × (of_part (part_on (codes "x") (codes "cpu0") (item (good_task (codes "0")) (item (boolean true) no_items)))
    ≡ Err (BadName (Task 0 0)))
tasks_in_their_order = (refl, refl)

-- of two empty parts the first
abbrev two_parts : Items → Items → Result SystemView SystemFault
two_parts first second =
    of_parts (item (part_on (codes "x") (codes "cpu0") first) (item (part_on (codes "y") (codes "cpu0") second) no_items))

empty_parts_in_their_order : (two_parts no_items no_items ≡ Err (Empty (Part 0)))
    × (two_parts (item (good_task (codes "t")) no_items) no_items ≡ Err (Empty (Part 1)))
empty_parts_in_their_order = (refl, refl)
