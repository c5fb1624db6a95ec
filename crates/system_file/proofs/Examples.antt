-- Files and documents worked out by the checker: good ones, and refused ones with the fault that
-- counts first.
use Rattle.slot_model.specs.Task.{plain_task}
use Rattle.std.specs.Prelude.{◌≡◌, codes, [], ◌∷◌, List, ℕ, zero, suc, ℤ, pos, negsuc, Ok, Err, Some, None, true, false, refl}
use Rattle.slot_model.specs.declared.sched.Sched.TheVariants.{Edf, Rm}
use Rattle.std.specs.Str.{is_utf8, chars}
use Rattle.toml.proofs.OnLiterals.{toml_on_literals}
use Rattle.toml.specs.Data.{Data, string, integer, boolean, array, table, Items, no_items, item, Members, no_members, member}
use Rattle.tree_model.specs.View.{SystemView}
use Rattle.tree_model.specs.declared.place.Parent.TheVariants.{Core as on_core, Part as on_part}
use Rattle.system_file.specs.declared.fault.Spot.TheVariants.{Top, Core, Part, Task}
use Rattle.system_file.specs.declared.fault.SystemFault.TheVariants.{NotToml, MissingKey, WrongKind, UnknownKey, BadName, NameTaken, OutOfRange, NoSuchParent, Mixed, Empty, TooMany}
use Rattle.system_file.specs.declared.format.Format.TheVariants.{One, Two}
use Rattle.system_file.specs.SystemFile.{system_of, system_of_document, file_format, needed_format}
use Rattle.system_file.specs.Printed.{printed}

-- from the bytes on
no_bytes : system_of [] ≡ Err (MissingKey Top)
unfolding toml_on_literals is_utf8 chars system_of
no_bytes = refl

format_alone : system_of (codes "format =") ≡ Err NotToml
unfolding toml_on_literals is_utf8 chars system_of
format_alone = refl

format_as_text : system_of (codes "format = \"1\"") ≡ Err (WrongKind Top)
unfolding toml_on_literals is_utf8 chars system_of
format_as_text = refl

no_text : system_of (0xff ∷ []) ≡ Err NotToml
unfolding toml_on_literals is_utf8 chars system_of
no_text = refl

core_alone : system_of (codes "format = 1\n[[core]]\nname = \"cpu0\"\nsched = \"edf\"\n")
    ≡ Ok (record { cores = record { name = codes "cpu0"; sched = Edf; supply = None } ∷ []; parts = [] })
unfolding toml_on_literals is_utf8 chars system_of
core_alone = refl

-- from the document on
abbrev of_format : ℤ → Items → Items → Members
of_format format cores parts =
    member (codes "core") (array cores)
    (member (codes "format") (integer format) (member (codes "part") (array parts) no_members))

abbrev document : Items → Items → Members
document cores parts = of_format (pos 1) cores parts

abbrev core_keys : Members → Members
core_keys more = member (codes "name") (string (codes "cpu0")) (member (codes "sched") (string (codes "edf")) more)

abbrev cpu0 : Data
cpu0 = table (core_keys no_members)

abbrev task : Data → Data → Data
task period work =
    table (member (codes "name") (string (codes "t"))
    (member (codes "period") period (member (codes "work") work no_members)))

abbrev inner : List ℕ → List ℕ → Members → Data
inner name parent more =
    table (member (codes "name") (string name) (member (codes "parent") (string parent)
    (member (codes "period") (integer (pos 10)) (member (codes "sched") (string (codes "rm")) more))))

abbrev leaf : List ℕ → List ℕ → Data
leaf name parent =
    inner name parent
    (member (codes "task") (array (item (task (integer (pos 10)) (integer (pos 1))) no_items)) no_members)

abbrev one_core : Items
one_core = item cpu0 no_items

a_leaf : system_of_document (Some (document one_core
    (item (inner (codes "m") (codes "cpu0") no_members) (item (leaf (codes "x") (codes "m")) no_items))))
    ≡ Ok (record {
      cores = record { name = codes "cpu0"; sched = Edf; supply = None } ∷ [];
      parts =
          record
          { name = codes "m"; parent = on_core 0; sched = Rm; period = 10; budget = None; extra = false; tasks = [] }
          ∷ record {
            name = codes "x";
            parent = on_part 0;
            sched = Rm;
            period = 10;
            budget = None;
            extra = false;
            tasks = record { name = codes "t"; task = plain_task 10 10 1 } ∷ [];
          } ∷ [];
    })
a_leaf = refl

later_parent : system_of_document
    (Some (document one_core (item (leaf (codes "x") (codes "y")) (item (leaf (codes "y") (codes "cpu0")) no_items))))
    ≡ Err (NoSuchParent (Part 0))
later_parent = refl

leaf_as_parent : system_of_document
    (Some (document one_core (item (leaf (codes "y") (codes "cpu0")) (item (leaf (codes "x") (codes "y")) no_items))))
    ≡ Err (Mixed (Part 1))
leaf_as_parent = refl

abbrev coloured : Items
coloured = item (table (member (codes "colour") (integer (pos 1)) (core_keys no_members))) no_items

unknown_key : system_of_document (Some (document coloured no_items)) ≡ Err (UnknownKey (Core 0))
unknown_key = refl

-- all three faults in one file: the core's counts
three_faults : system_of_document (Some (document coloured (item (leaf (codes "x") (codes "y"))
    (item (leaf (codes "y") (codes "cpu0")) (item (leaf (codes "z") (codes "y")) no_items)))))
    ≡ Err (UnknownKey (Core 0))
three_faults = refl

bad_name : system_of_document (Some (document one_core (item (leaf (codes "9x") (codes "cpu0")) no_items)))
    ≡ Err (BadName (Part 0))
bad_name = refl

name_taken : system_of_document (Some
    (document one_core (item (leaf (codes "x") (codes "cpu0")) (item (leaf (codes "x") (codes "cpu0")) no_items))))
    ≡ Err (NameTaken (Part 1))
name_taken = refl

no_tasks : system_of_document (Some (document one_core (item (inner (codes "x") (codes "cpu0") no_members) no_items)))
    ≡ Err (Empty (Part 0))
no_tasks = refl

-- one key at a time
abbrev with_task : Data → Members
with_task t =
    document one_core
    (item (inner (codes "x") (codes "cpu0") (member (codes "task") (array (item t no_items)) no_members)) no_items)

too_much_work : system_of_document (Some (with_task (task (integer (pos 10)) (integer (pos 11)))))
    ≡ Err (OutOfRange (Task 0 0))
too_much_work = refl

whole_period : system_of_document (Some (with_task (task (string (codes "10")) (integer (pos 1)))))
    ≡ Err (WrongKind (Task 0 0))
whole_period = refl

supply_budget_alone : system_of_document (Some
    (document (item (table (core_keys (member (codes "supply_budget") (string []) no_members))) no_items) no_items))
    ≡ Err (MissingKey (Core 0))
supply_budget_alone = refl

-- its own fault comes before that of the missing budget
supply_period_of_0 : system_of_document (Some (document
    (item (table (core_keys (member (codes "supply_period") (integer (pos 0)) no_members))) no_items) no_items))
    ≡ Err (OutOfRange (Core 0))
supply_period_of_0 = refl

-- a task with jitter: in format 2 alone, and with work up to what the jitter leaves of the deadline
abbrev late_task : Data → Data → Data
late_task jitter work =
    table (member (codes "deadline") (integer (pos 9))
    (member (codes "jitter") jitter
    (member (codes "name") (string (codes "t"))
    (member (codes "period") (integer (pos 10)) (member (codes "work") work no_members)))))

abbrev of_task : ℤ → Data → Members
of_task format t =
    of_format format one_core
    (item (inner (codes "x") (codes "cpu0") (member (codes "task") (array (item t no_items)) no_members))
    no_items)

abbrev late : ℕ → ℕ → SystemView
late jitter work = record {
  cores = record { name = codes "cpu0"; sched = Edf; supply = None } ∷ [];
  parts = record {
    name = codes "x";
    parent = on_core 0;
    sched = Rm;
    period = 10;
    budget = None;
    extra = false;
    tasks = record {
      name = codes "t";
      task = record { period = 10; deadline = 9; work = work; jitter = jitter };
    } ∷ [];
  } ∷ [];
}

jitter_read : system_of_document (Some (of_task (pos 2) (late_task (integer (pos 4)) (integer (pos 5)))))
    ≡ Ok (late 4 5)
jitter_read = refl

most_jitter : system_of_document (Some (of_task (pos 2) (late_task (integer (pos 8)) (integer (pos 1)))))
    ≡ Ok (late 8 1)
most_jitter = refl

work_in_the_jitter : system_of_document (Some (of_task (pos 2) (late_task (integer (pos 4)) (integer (pos 6)))))
    ≡ Err (OutOfRange (Task 0 0))
work_in_the_jitter = refl

jitter_of_the_deadline : system_of_document (Some (of_task (pos 2) (late_task (integer (pos 9)) (integer (pos 1)))))
    ≡ Err (OutOfRange (Task 0 0))
jitter_of_the_deadline = refl

jitter_below_0 : system_of_document (Some (of_task (pos 2) (late_task (integer (negsuc 0)) (integer (pos 1)))))
    ≡ Err (OutOfRange (Task 0 0))
jitter_below_0 = refl

-- its kind counts before the range of the work
jitter_as_text : system_of_document (Some (of_task (pos 2) (late_task (string (codes "4")) (integer (pos 9)))))
    ≡ Err (WrongKind (Task 0 0))
jitter_as_text = refl

jitter_in_format_1 : system_of_document (Some (of_task (pos 1) (late_task (integer (pos 4)) (integer (pos 5)))))
    ≡ Err (UnknownKey (Task 0 0))
jitter_in_format_1 = refl

no_jitter_in_format_2 : system_of_document (Some (of_task (pos 2) (task (integer (pos 10)) (integer (pos 10)))))
    ≡ system_of_document (Some (of_task (pos 1) (task (integer (pos 10)) (integer (pos 10)))))
no_jitter_in_format_2 = refl

-- other formats
format_0 : system_of_document (Some (of_format (pos 0) one_core no_items)) ≡ Err (OutOfRange Top)
format_0 = refl

format_3 : system_of_document (Some (of_format (pos 3) one_core no_items)) ≡ Err (OutOfRange Top)
format_3 = refl

format_below_0 : system_of_document (Some (of_format (negsuc 0) one_core no_items)) ≡ Err (OutOfRange Top)
format_below_0 = refl

-- the format of a text, and the one that a system needs
format_of_a_text : file_format (codes "format = 2") ≡ Some Two
unfolding toml_on_literals is_utf8 chars
format_of_a_text = refl

needs_2 : needed_format (late 1 1) ≡ Two
needs_2 = refl

needs_1 : needed_format (late 0 1) ≡ One
needs_1 = refl

-- a fault of a task is told with the number of its part and its own in it
abbrev of_tasks : List ℕ → Items → Data
of_tasks name tasks = inner name (codes "cpu0") (member (codes "task") (array tasks) no_members)

abbrev good_task : Data
good_task = task (integer (pos 10)) (integer (pos 1))

abbrev bad_task : Data
bad_task = task (integer (pos 10)) (integer (pos 11))

first_task_of_the_second_part : system_of_document (Some (document one_core
    (item (leaf (codes "x") (codes "cpu0")) (item (of_tasks (codes "y") (item bad_task no_items)) no_items))))
    ≡ Err (OutOfRange (Task 1 0))
first_task_of_the_second_part = refl

second_task_of_the_second_part : system_of_document (Some (document one_core
    (item (leaf (codes "x") (codes "cpu0"))
    (item (of_tasks (codes "y") (item good_task (item good_task no_items))) no_items))))
    ≡ Err (NameTaken (Task 1 1))
second_task_of_the_second_part = refl

-- of two faults of one table that of the earlier key is told: at the top core stands before part
no_core_before_a_wrong_part : system_of_document (Some
    (member (codes "core") (array no_items)
    (member (codes "format") (integer (pos 1)) (member (codes "part") (integer (pos 1)) no_members))))
    ≡ Err (Empty Top)
no_core_before_a_wrong_part = refl

-- and the format before both
format_before_core : system_of_document (Some
    (member (codes "core") (array no_items) (member (codes "format") (integer (pos 3)) no_members)))
    ≡ Err (OutOfRange Top)
format_before_core = refl

-- of a core sched stands before the supply
abbrev core_of : Data → Members → Items
core_of sched more = item (table (member (codes "name") (string (codes "cpu0")) (member (codes "sched") sched more))) no_items

sched_before_supply : system_of_document (Some (document
    (core_of (string (codes "EDF")) (member (codes "supply_period") (integer (pos 5)) no_members)) no_items))
    ≡ Err (OutOfRange (Core 0))
sched_before_supply = refl

supply_period_alone : system_of_document (Some (document
    (core_of (string (codes "edf")) (member (codes "supply_period") (integer (pos 5)) no_members)) no_items))
    ≡ Err (MissingKey (Core 0))
supply_period_alone = refl

-- of a part budget stands before extra, and extra before task
abbrev part_of : Data → Data → Data → Data
part_of budget extra tasks =
    table (member (codes "budget") budget
    (member (codes "extra") extra
    (member (codes "name") (string (codes "x"))
    (member (codes "parent") (string (codes "cpu0"))
    (member (codes "period") (integer (pos 10))
    (member (codes "sched") (string (codes "rm")) (member (codes "task") tasks no_members)))))))

abbrev of_part : Data → Items → Members
of_part part later = document one_core (item part later)

budget_before_extra : system_of_document (Some
    (of_part (part_of (integer (pos 11)) (integer (pos 1)) (array (item good_task no_items))) no_items))
    ≡ Err (OutOfRange (Part 0))
budget_before_extra = refl

budget_before_task : system_of_document (Some
    (of_part (part_of (integer (pos 11)) (boolean true) (integer (pos 1))) no_items))
    ≡ Err (OutOfRange (Part 0))
budget_before_task = refl

-- 257 tasks are too many, and that is told before what is wrong with each
abbrev copies : ℕ → Items
copies zero = no_items
copies (suc n) = item (boolean false) (copies n)

too_many_tasks : system_of_document (Some
    (of_part (part_of (integer (pos 5)) (boolean true) (array (copies 257))) no_items))
    ≡ Err (TooMany (Part 0))
too_many_tasks = refl

extra_before_task : system_of_document (Some
    (of_part (part_of (integer (pos 5)) (integer (pos 1)) (array (copies 257))) no_items))
    ≡ Err (WrongKind (Part 0))
extra_before_task = refl

-- of a task deadline stands before jitter
deadline_before_jitter : system_of_document (Some (of_task (pos 2)
    (table (member (codes "deadline") (integer (pos 11))
    (member (codes "jitter") (string (codes "4"))
    (member (codes "name") (string (codes "t"))
    (member (codes "period") (integer (pos 10)) (member (codes "work") (integer (pos 1)) no_members))))))))
    ≡ Err (OutOfRange (Task 0 0))
deadline_before_jitter = refl

-- a part's own keys stand before its tasks, and its tasks before the next part
abbrev odd_task : Data
odd_task = table (member (codes "colour") (integer (pos 1)) no_members)

a_key_of_a_part_before_its_tasks : system_of_document (Some
    (of_part (part_of (integer (pos 11)) (boolean true) (array (item odd_task no_items))) no_items))
    ≡ Err (OutOfRange (Part 0))
a_key_of_a_part_before_its_tasks = refl

a_task_before_the_next_part : system_of_document (Some
    (of_part (part_of (integer (pos 5)) (boolean true) (array (item odd_task no_items)))
    (item (leaf (codes "9y") (codes "cpu0")) no_items)))
    ≡ Err (UnknownKey (Task 0 0))
a_task_before_the_next_part = refl

-- and the next part before an earlier one that is empty
a_later_part_before_an_empty_one : system_of_document (Some (document one_core
    (item (inner (codes "x") (codes "cpu0") no_members) (item (leaf (codes "9y") (codes "cpu0")) no_items))))
    ≡ Err (BadName (Part 1))
a_later_part_before_an_empty_one = refl

-- a core's supply, a part's budget and its extra are read, and printed as they stood
abbrev supplied : Members
supplied =
    of_format (pos 1)
    (core_of (string (codes "edf"))
    (member (codes "supply_budget") (integer (pos 3)) (member (codes "supply_period") (integer (pos 8)) no_members)))
    (item (part_of (integer (pos 5)) (boolean true) (array (item good_task no_items))) no_items)

abbrev supplied_system : SystemView
supplied_system = record {
  cores = record { name = codes "cpu0"; sched = Edf; supply = Some (8, 3) } ∷ [];
  parts = record {
    name = codes "x";
    parent = on_core 0;
    sched = Rm;
    period = 10;
    budget = Some 5;
    extra = true;
    tasks = record { name = codes "t"; task = plain_task 10 10 1 } ∷ [];
  } ∷ [];
}

supplied_read : system_of_document (Some supplied) ≡ Ok supplied_system
supplied_read = refl

supplied_printed : printed supplied_system ≡ supplied
supplied_printed = refl
