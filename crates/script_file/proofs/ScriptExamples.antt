-- Rows of scripts, on which the rules are computed.
use Rattle.std.proofs.Common.{◌≡◌, ℕ, Bool, List, Option, Some, None, true, false, [], ◌∷◌, codes, take, drop, ◌++◌, suc, refl}
use Rattle.std.specs.Prelude.{is_some}
use Rattle.slot_model.specs.declared.sched.Sched.{Sched}
use Rattle.slot_model.specs.declared.sched.Sched.TheVariants.{Edf, Rm, Dm, Listed}
use Rattle.slot_model.specs.Task.{jittery_task}
use Rattle.tree_model.specs.declared.place.Parent.TheVariants.{Core}
use Rattle.csv_rows.specs.Rules.{row_of}
use Rattle.admission_session.specs.declared.edit.Edit.{Edit}
use Rattle.admission_session.specs.declared.edit.Edit.TheVariants.{Add, Remove, Change}
use Rattle.admission_session.specs.LeafView.{LeafView}
use Rattle.script_file.specs.declared.fault.ScriptFault.TheVariants.{BadHeader, BadRow}
use Rattle.script_file.specs.Pieces.{pieces}
use Rattle.script_file.specs.Script.{edit_of, is_script_header, is_row, number_in, script_rows, script_rules, task_in, tasks_in, IsScriptFault}
use Rattle.script_file.specs.Guests.{guest_of, is_guest}

cut_at_each_place : pieces 59 (codes ";a;;bc;") ≡ [] ∷ codes "a" ∷ [] ∷ codes "bc" ∷ [] ∷ []
cut_at_each_place = refl

an_empty_text_is_one_piece : pieces 59 [] ≡ [] ∷ []
an_empty_text_is_one_piece = refl

a_task : is_some (task_in (codes "t:100:90:5:11")) ≡ true
a_task = refl

four_numbers_make_a_task : task_in (codes "t:100:100:11") ≡ None
four_numbers_make_a_task = refl

-- a task has five fields
six_fields_make_no_task : task_in (codes "t:100:100:0:1:9") ≡ None
six_fields_make_no_task = refl

jitter_and_work_past_the_deadline : task_in (codes "t:100:90:80:11") ≡ None
jitter_and_work_past_the_deadline = refl

an_empty_list_has_no_tasks : tasks_in [] ≡ Some []
an_empty_list_has_no_tasks = refl

a_semicolon_at_the_end : tasks_in (codes "t:10:10:0:1;") ≡ None
a_semicolon_at_the_end = refl

a_removal : is_row (codes "remove" ∷ codes "B" ∷ [] ∷ [] ∷ [] ∷ [] ∷ [] ∷ []) ≡ true
a_removal = refl

a_removal_with_a_parent : is_row (codes "remove" ∷ codes "B" ∷ codes "cpu0" ∷ [] ∷ [] ∷ [] ∷ [] ∷ []) ≡ false
a_removal_with_a_parent = refl

-- a removal has no more than a part: no scheduler, no period, no budget and no tasks
a_removal_with_a_scheduler : is_row (codes "remove" ∷ codes "B" ∷ [] ∷ codes "edf" ∷ [] ∷ [] ∷ [] ∷ []) ≡ false
a_removal_with_a_scheduler = refl

a_removal_with_a_period : is_row (codes "remove" ∷ codes "B" ∷ [] ∷ [] ∷ codes "10" ∷ [] ∷ [] ∷ []) ≡ false
a_removal_with_a_period = refl

a_removal_with_a_budget : is_row (codes "remove" ∷ codes "B" ∷ [] ∷ [] ∷ [] ∷ codes "5" ∷ [] ∷ []) ≡ false
a_removal_with_a_budget = refl

a_removal_with_tasks : is_row (codes "remove" ∷ codes "B" ∷ [] ∷ [] ∷ [] ∷ [] ∷ codes "t:10:10:0:1" ∷ []) ≡ false
a_removal_with_tasks = refl

a_change_with_a_parent : is_row (codes "change" ∷ codes "B" ∷ codes "cpu0" ∷ codes "edf" ∷ codes "10" ∷ [] ∷ [] ∷ [])
    ≡ false
a_change_with_a_parent = refl

an_addition_without_a_parent : is_row (codes "add" ∷ codes "B" ∷ [] ∷ codes "edf" ∷ codes "10" ∷ [] ∷ [] ∷ []) ≡ true
an_addition_without_a_parent = refl

a_period_with_a_leading_zero : is_row (codes "add" ∷ codes "B" ∷ [] ∷ codes "edf" ∷ codes "010" ∷ [] ∷ [] ∷ []) ≡ false
a_period_with_a_leading_zero = refl

a_period_past_64_bits : is_row
    (codes "add" ∷ codes "B" ∷ [] ∷ codes "edf" ∷ codes "18446744073709551616" ∷ [] ∷ [] ∷ []) ≡ false
a_period_past_64_bits = refl

six_fields : is_row (codes "remove" ∷ codes "B" ∷ [] ∷ [] ∷ [] ∷ [] ∷ []) ≡ false
six_fields = refl

-- also where the field more is empty
eight_fields : is_row (codes "remove" ∷ codes "B" ∷ [] ∷ [] ∷ [] ∷ [] ∷ [] ∷ [] ∷ []) ≡ false
eight_fields = refl

an_addition_of_eight_fields : is_row
    (codes "add" ∷ codes "B" ∷ [] ∷ codes "edf" ∷ codes "10" ∷ [] ∷ codes "t:10:10:0:1" ∷ [] ∷ []) ≡ false
an_addition_of_eight_fields = refl

-- a field that may be empty is read where it is not: what is no budget is no open one, and what is
-- no name is no missing parent
a_budget_that_is_no_number : is_row (codes "add" ∷ codes "B" ∷ [] ∷ codes "edf" ∷ codes "10" ∷ codes "x" ∷ [] ∷ [])
    ≡ false
a_budget_that_is_no_number = refl

a_changed_budget_that_is_no_number : is_row
    (codes "change" ∷ codes "B" ∷ [] ∷ codes "edf" ∷ codes "10" ∷ codes "05" ∷ [] ∷ []) ≡ false
a_changed_budget_that_is_no_number = refl

a_parent_that_is_no_name : is_row (codes "add" ∷ codes "B" ∷ codes "0c" ∷ codes "edf" ∷ codes "10" ∷ [] ∷ [] ∷ [])
    ≡ false
a_parent_that_is_no_name = refl

-- the greatest number of a field, and one more
the_greatest_number : number_in (codes "18446744073709551615") ≡ Some 18446744073709551615
the_greatest_number = refl

one_number_too_great : number_in (codes "18446744073709551616") ≡ None
one_number_too_great = refl

no_number_in_an_empty_field : number_in [] ≡ None
no_number_in_an_empty_field = refl

-- the numbers of a task stand as period, deadline, jitter and work
a_task_that_is_spelled : task_in (codes "t:100:90:5:11")
    ≡ Some (record { name = codes "t"; task = jittery_task 100 90 11 5 })
a_task_that_is_spelled = refl

-- all that its deadline leaves past its jitter, a deadline of its period, and the longest period
the_most_work : is_some (task_in (codes "t:100:90:79:11")) ≡ true
the_most_work = refl

one_slot_of_work_too_many : task_in (codes "t:100:90:79:12") ≡ None
one_slot_of_work_too_many = refl

no_work : task_in (codes "t:100:90:5:0") ≡ None
no_work = refl

a_deadline_at_the_period : is_some (task_in (codes "t:100:100:0:1")) ≡ true
a_deadline_at_the_period = refl

a_deadline_past_the_period : task_in (codes "t:100:101:0:1") ≡ None
a_deadline_past_the_period = refl

the_longest_period : is_some (task_in (codes "t:1000000000:1:0:1")) ≡ true
the_longest_period = refl

one_slot_longer : task_in (codes "t:1000000001:1:0:1") ≡ None
one_slot_longer = refl

a_task_without_a_name : task_in (codes ":100:90:5:11") ≡ None
a_task_without_a_name = refl

-- what rows spell: an addition on a parent and on none, a change, which has no parent, and a
-- removal
abbrev row : List ℕ → List ℕ → List ℕ → List (List ℕ)
row op parent budget =
    op ∷ codes "B" ∷ parent ∷ codes "listed" ∷ codes "20" ∷ budget ∷ codes "t:20:20:1:2;u:40:30:0:3" ∷ []

abbrev spelled : LeafView
spelled = record {
  name = codes "B";
  sched = Listed;
  period = 20;
  budget = Some 7;
  tasks =
      record { name = codes "t"; task = jittery_task 20 20 2 1 }
      ∷ record { name = codes "u"; task = jittery_task 40 30 3 0 } ∷ [];
}

abbrev by : Sched → LeafView
by sched = record { name = codes "B"; sched = sched; period = 10; budget = None; tasks = [] }

abbrev bare : Option ℕ → LeafView
bare budget = record { name = codes "B"; sched = Edf; period = 10; budget = budget; tasks = [] }

an_addition : edit_of (row (codes "add") (codes "cpu0") (codes "7")) ≡ Add spelled (Some (codes "cpu0"))
an_addition = refl

an_addition_of_a_guest : edit_of (codes "add" ∷ codes "B" ∷ [] ∷ codes "edf" ∷ codes "10" ∷ [] ∷ [] ∷ [])
    ≡ Add (bare None) None
an_addition_of_a_guest = refl

a_change : edit_of (codes "change" ∷ codes "B" ∷ [] ∷ codes "edf" ∷ codes "10" ∷ codes "3" ∷ [] ∷ [])
    ≡ Change (bare (Some 3))
a_change = refl

a_removal_that_is_spelled : edit_of (codes "remove" ∷ codes "B" ∷ [] ∷ [] ∷ [] ∷ [] ∷ [] ∷ []) ≡ Remove (codes "B")
a_removal_that_is_spelled = refl

rows_that_are_none : (is_row (codes "Add" ∷ codes "B" ∷ [] ∷ codes "edf" ∷ codes "10" ∷ [] ∷ [] ∷ []) ≡ false)
    × (is_row (codes "add" ∷ codes "B" ∷ [] ∷ codes "fifo" ∷ codes "10" ∷ [] ∷ [] ∷ []) ≡ false)
    × (is_row (codes "add" ∷ [] ∷ [] ∷ codes "edf" ∷ codes "10" ∷ [] ∷ [] ∷ []) ≡ false)
    × (is_row (codes "add" ∷ codes "B" ∷ [] ∷ codes "edf" ∷ [] ∷ [] ∷ [] ∷ []) ≡ false)
rows_that_are_none = (refl, refl, refl, refl)

-- a row says a leaf that may be none: a period of 0 or past the longest, a budget past its period,
-- no tasks, and two of one name. The edit is refused, and not the row
abbrev spells : List ℕ → List ℕ → List ℕ → Bool
spells period budget tasks =
    is_row (codes "add" ∷ codes "B" ∷ codes "c" ∷ codes "edf" ∷ period ∷ budget ∷ tasks ∷ [])

rows_of_what_is_no_leaf : (spells (codes "0") [] (codes "t:10:10:0:1") ≡ true)
    × (spells (codes "1000000001") [] (codes "t:10:10:0:1") ≡ true)
    × (spells (codes "10") (codes "11") (codes "t:10:10:0:1") ≡ true)
    × (spells (codes "10") (codes "0") (codes "t:10:10:0:1") ≡ true) × (spells (codes "10") [] [] ≡ true)
    × (spells (codes "10") [] (codes "t:10:10:0:1;t:20:20:0:1") ≡ true)
rows_of_what_is_no_leaf = (refl, refl, refl, refl, refl, refl)

-- one bad task of several, wherever it stands, and a text that is none
lists_with_a_bad_task : (tasks_in (codes "t:10:10:0:1;u:10:10:0") ≡ None)
    × (tasks_in (codes "t:10:10:0;u:10:10:0:1") ≡ None) × (tasks_in (codes ";t:10:10:0:1") ≡ None)
    × (tasks_in (codes ";") ≡ None) × (tasks_in (codes "t:10:10:0:01") ≡ None)
    × (tasks_in (codes "t:10::0:1") ≡ None)
lists_with_a_bad_task = (refl, refl, refl, refl, refl, refl)

-- the four words of schedulers, and a row of each
abbrev served_by : List ℕ → Edit
served_by word = edit_of (codes "change" ∷ codes "B" ∷ [] ∷ word ∷ codes "10" ∷ [] ∷ [] ∷ [])

schedulers_in_their_words : (served_by (codes "edf") ≡ Change (by Edf)) × (served_by (codes "rm") ≡ Change (by Rm))
    × (served_by (codes "dm") ≡ Change (by Dm)) × (served_by (codes "listed") ≡ Change (by Listed))
schedulers_in_their_words = (refl, refl, refl, refl)

-- the header is row 1, and the first row behind it is row 2
abbrev header : List (List ℕ)
header =
    codes "op" ∷ codes "part" ∷ codes "parent" ∷ codes "sched" ∷ codes "period" ∷ codes "budget" ∷ codes "tasks" ∷ []

the_header : is_script_header header ≡ true
the_header = refl

a_header_in_another_order : is_script_header
    (codes "part" ∷ codes "op" ∷ codes "parent" ∷ codes "sched" ∷ codes "period" ∷ codes "budget" ∷ codes "tasks" ∷ [])
    ≡ false
a_header_in_another_order = refl

-- each column has its own name, which no other word stands for
abbrev with_column : ℕ → List ℕ → List (List ℕ)
with_column place word = take place header ++ word ∷ drop (suc place) header

the_header_by_its_columns : is_script_header (with_column 3 (codes "sched")) ≡ true
the_header_by_its_columns = refl

another_word_for_op : is_script_header (with_column 0 (codes "what")) ≡ false
another_word_for_op = refl

another_word_for_part : is_script_header (with_column 1 (codes "leaf")) ≡ false
another_word_for_part = refl

another_word_for_parent : is_script_header (with_column 2 (codes "core")) ≡ false
another_word_for_parent = refl

another_word_for_sched : is_script_header (with_column 3 (codes "scheduler")) ≡ false
another_word_for_sched = refl

another_word_for_period : is_script_header (with_column 4 (codes "Period")) ≡ false
another_word_for_period = refl

another_word_for_budget : is_script_header (with_column 5 (codes "work")) ≡ false
another_word_for_budget = refl

another_word_for_tasks : is_script_header (with_column 6 (codes "task")) ≡ false
another_word_for_tasks = refl

-- two numbers beside each other that would be read for one another
budget_before_period : is_script_header
    (codes "op" ∷ codes "part" ∷ codes "parent" ∷ codes "sched" ∷ codes "budget" ∷ codes "period" ∷ codes "tasks" ∷ [])
    ≡ false
budget_before_period = refl

a_header_of_eight_columns : is_script_header (header ++ codes "extra" ∷ []) ≡ false
a_header_of_eight_columns = refl

a_header_of_six_columns : is_script_header (take 6 header) ≡ false
a_header_of_six_columns = refl

-- a file of such a header has no rows, and its fault is that of the header
no_rows_behind_another_header : IsScriptFault (script_rows (with_column 4 (codes "budget") ∷ [])) BadHeader
no_rows_behind_another_header = refl

no_record_is_no_script : IsScriptFault (script_rows []) BadHeader
no_record_is_no_script = refl

the_first_row : row_of 0 ≡ 2
the_first_row = refl

what_a_bad_row_breaks : (script_rules [] (codes "remove" ∷ []) ≡ Some (BadRow 2))
    × (script_rules (header ∷ header ∷ []) (codes "remove" ∷ []) ≡ Some (BadRow 4))
    × (script_rules [] (row (codes "add") [] []) ≡ None)
what_a_bad_row_breaks = (refl, refl, refl)

-- a guest adds a leaf on no parent, which stands on the first core until it is placed
a_guest : is_guest (edit_of (row (codes "add") [] [])) ≡ true
a_guest = refl

no_guest_on_a_parent : is_guest (edit_of (row (codes "add") (codes "cpu0") [])) ≡ false
no_guest_on_a_parent = refl

no_guest_by_a_change : is_guest (edit_of (row (codes "change") [] [])) ≡ false
no_guest_by_a_change = refl

no_guest_by_a_removal : is_guest (edit_of (codes "remove" ∷ codes "B" ∷ [] ∷ [] ∷ [] ∷ [] ∷ [] ∷ [])) ≡ false
no_guest_by_a_removal = refl

the_part_of_a_guest : guest_of (bare (Some 4))
    ≡ record {
      name = codes "B";
      parent = Core 0;
      sched = Edf;
      period = 10;
      budget = Some 4;
      extra = false;
      tasks = [];
    }
the_part_of_a_guest = refl
