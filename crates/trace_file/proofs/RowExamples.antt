-- Worked rows and events over two cores, on which the rules of a trace and the order in which they
-- are tried are computed: A stands on the first core, B on the second, and N in A.
use Rattle.std.proofs.Common.{◌≡◌, ℕ, zero, suc, true, false, Some, None, List, [], ◌∷◌, map, codes, refl, sym, arith, inr}
use Rattle.std.proofs.lemmas.Option.{none-some}
use Rattle.csv_rows.specs.Last.{last_below}
use Rattle.csv_rows.specs.Rules.{RowsKeep}
use Rattle.slot_model.specs.Task.{plain_task}
use Rattle.slot_model.specs.declared.sched.Sched.TheVariants.{Edf}
use Rattle.tree_model.specs.declared.pinned_core.Core.{Core as CoreView}
use Rattle.tree_model.specs.declared.place.Parent.{Parent}
use Rattle.tree_model.specs.declared.place.Parent.TheVariants.{Core as on_core, Part as on_part}
use Rattle.tree_model.specs.View.{PartView, SystemView}
use Rattle.trace_file.specs.declared.event.Event.{Event}
use Rattle.trace_file.specs.declared.event.What.{What}
use Rattle.trace_file.specs.declared.event.What.TheVariants.{Start, Wake, Block, Run, Stop, End}
use Rattle.trace_file.specs.declared.fault.TraceFault.TheVariants.{TimeFalls, NotRunnable, NotStarted, OutOfRange, Unknown, WrongCore, BadHeader, BadRow, NoEnd, StillRunning, CoreIdle, AfterEnd}
use Rattle.trace_file.specs.declared.unit.Unit.TheVariants.{Microseconds, Nanoseconds}
use Rattle.trace_file.specs.Events.{holder, has_core, has_core_at}
use Rattle.trace_file.specs.Rules.{row_fault, Kept, LacksEnd}
use Rattle.trace_file.specs.File.{is_row, event_of, events_of, unit_of, rows_of, row_rules, Spells, IsFileFault, LacksFileEnd}

abbrev part_on : Parent → ℕ → PartView
part_on parent letter =
    record {
      name = letter ∷ [];
      parent = parent;
      sched = Edf;
      period = 10;
      budget = Some 3;
      extra = false;
      tasks = record { name = 116 ∷ []; task = plain_task 100 100 3 } ∷ [];
    }

abbrev core_named : ℕ → CoreView
core_named letter = record { name = letter ∷ []; sched = Edf; supply = None }

abbrev pair : SystemView
pair =
    record {
      cores = core_named 99 ∷ core_named 100 ∷ [];
      parts = part_on (on_core 0) 65 ∷ part_on (on_core 1) 66 ∷ part_on (on_part 0) 78 ∷ [];
    }

abbrev fields : List ℕ → List ℕ → List ℕ → List ℕ → List (List ℕ)
fields at core word vcpu = at ∷ core ∷ word ∷ vcpu ∷ []

abbrev row : ℕ → ℕ → What → Event
row at core what = record { at = at; core = core; what = what }

-- a row of each word, and its event
abbrev one_of_each : List (List (List ℕ))
one_of_each =
    fields (codes "0") (codes "c") (codes "start") (codes "A")
    ∷ fields (codes "1") (codes "c") (codes "block") (codes "A")
    ∷ fields (codes "2") (codes "c") (codes "wake") (codes "A")
    ∷ fields (codes "3") (codes "d") (codes "run") (codes "B") ∷ fields (codes "4") (codes "d") (codes "stop") []
    ∷ fields (codes "5") [] (codes "end") [] ∷ []

each_is_a_row : map is_row one_of_each ≡ true ∷ true ∷ true ∷ true ∷ true ∷ true ∷ []
each_is_a_row = refl

each_has_its_event : events_of pair Nanoseconds one_of_each
    ≡ row 0 0 (Start 0) ∷ row 1 0 (Block 0) ∷ row 2 0 (Wake 0) ∷ row 3 1 (Run 1) ∷ row 4 1 Stop ∷ row 5 0 End ∷ []
each_has_its_event = refl

-- no rows: a name that is missing or too many, another word, a number with a leading zero, and
-- fewer or more fields
abbrev no_rows : List (List (List ℕ))
no_rows =
    fields (codes "0") [] (codes "start") (codes "A") ∷ fields (codes "0") (codes "c") (codes "block") []
    ∷ fields (codes "0") [] (codes "wake") (codes "A") ∷ fields (codes "0") (codes "c") (codes "run") []
    ∷ fields (codes "0") (codes "c") (codes "stop") (codes "A") ∷ fields (codes "0") [] (codes "stop") []
    ∷ fields (codes "0") (codes "c") (codes "end") [] ∷ fields (codes "0") [] (codes "end") (codes "A")
    ∷ fields (codes "0") (codes "c") (codes "go") (codes "A") ∷ fields (codes "01") [] (codes "end") []
    ∷ (codes "0" ∷ [] ∷ codes "end" ∷ []) ∷ (codes "0" ∷ [] ∷ codes "end" ∷ [] ∷ [] ∷ []) ∷ []

none_is_a_row : map is_row no_rows
    ≡ false ∷ false ∷ false ∷ false ∷ false ∷ false ∷ false ∷ false ∷ false ∷ false ∷ false ∷ false ∷ []
none_is_a_row = refl

-- a name that no core and no part has stands behind the last one
past_the_last : event_of pair Nanoseconds (fields (codes "0") (codes "e") (codes "run") (codes "C")) ≡ row 0 2 (Run 3)
past_the_last = refl

-- a header has just these four fields
abbrev headers : List (List (List ℕ))
headers =
    fields (codes "at") (codes "core") (codes "what") (codes "vcpu")
    ∷ fields (codes "at") (codes "cpu") (codes "what") (codes "vcpu")
    ∷ fields (codes "at") (codes "core") (codes "who") (codes "vcpu")
    ∷ fields (codes "at") (codes "core") (codes "what") (codes "dom") ∷ (codes "at" ∷ codes "core" ∷ codes "what" ∷ [])
    ∷ []

one_is_a_header : map unit_of headers ≡ Some Microseconds ∷ None ∷ None ∷ None ∷ None ∷ []
one_is_a_header = refl

-- the rows stand behind it, and a text without one has no rows
rows_behind_a_header :
    rows_of (fields (codes "at") (codes "core") (codes "what") (codes "vcpu") ∷ one_of_each) ∷ rows_of one_of_each
    ∷ rows_of [] ∷ [] ≡ Some (Microseconds, one_of_each) ∷ None ∷ None ∷ []
rows_behind_a_header = refl

no_header_is_told : IsFileFault pair (rows_of one_of_each) BadHeader
no_header_is_told = refl

-- a header and a row of an end spell that end
an_end_alone : Spells pair
    (fields (codes "at_ns") (codes "core") (codes "what") (codes "vcpu") ∷ fields (codes "5") [] (codes "end") [] ∷ [])
    (row 5 0 End ∷ [])
unfolding last_below
an_end_alone = record {
  unit = Nanoseconds;
  rows = fields (codes "5") [] (codes "end") [] ∷ [];
  header = refl;
  keep = keep;
  ended = refl;
  events_are = refl;
}
  where
    keep : RowsKeep (row_rules pair Nanoseconds) (fields (codes "5") [] (codes "end") [] ∷ []) 1
    keep zero l = refl
    keep (suc i) l = absurd (omega (arith, l))

-- a run on one core leaves the other as it was
abbrev both_run : List Event
both_run = row 0 0 (Start 0) ∷ row 0 1 (Start 1) ∷ row 0 1 (Run 1) ∷ row 0 0 (Run 0) ∷ row 4 0 Stop ∷ []

holders_of_both : holder both_run 5 0 ∷ holder both_run 5 1 ∷ [] ≡ None ∷ Some 1 ∷ []
unfolding last_below
holders_of_both = refl

b_keeps_its_core : has_core_at (on_core 1) both_run 1 5 ≡ true
unfolding last_below
b_keeps_its_core = refl

a_has_none_after_its_stop : has_core_at (on_core 0) both_run 0 4 ≡ false
unfolding last_below
a_has_none_after_its_stop = refl

b_has_its_core : has_core (on_core 1) both_run 5 1 ∷ has_core (on_core 0) both_run 5 1 ∷ [] ≡ true ∷ false ∷ []
unfolding last_below
b_has_its_core = refl

-- a part of a part has none
n_has_no_core : has_core (on_part 0) both_run 4 2 ∷ has_core_at (on_part 0) both_run 2 3 ∷ [] ≡ false ∷ false ∷ []
n_has_no_core = refl

-- a VCPU stands on its own core, and what stands in a part is none
not_its_core : row_fault pair (row 0 1 (Start 0) ∷ []) 0 ≡ Some (WrongCore 2)
unfolding last_below
not_its_core = refl

inside_a_part : row_fault pair (row 0 0 (Start 2) ∷ []) 0 ≡ Some (Unknown 2)
unfolding last_below
inside_a_part = refl

-- of two rules that one row breaks the first is told
no_row_and_too_late : row_rules pair Microseconds [] (fields (codes "1000000001") (codes "c") (codes "go") (codes "A"))
    ≡ Some (BadRow 2)
unfolding last_below
no_row_and_too_late = refl

too_late_and_falling : row_fault pair (row 1000000000002 0 (Start 0) ∷ row 1000000000001 0 (Run 0) ∷ []) 1
    ≡ Some (OutOfRange 3)
unfolding last_below
too_late_and_falling = refl

falling_and_unknown : row_fault pair (row 5 0 (Start 0) ∷ row 4 0 (Run 9) ∷ []) 1 ≡ Some (TimeFalls 3)
unfolding last_below
falling_and_unknown = refl

unknown_and_on_another_core : row_fault pair (row 0 1 (Start 2) ∷ []) 0 ≡ Some (Unknown 2)
unfolding last_below
unknown_and_on_another_core = refl

on_another_core_and_not_started : row_fault pair (row 0 1 (Run 0) ∷ []) 0 ≡ Some (WrongCore 2)
unfolding last_below
on_another_core_and_not_started = refl

not_started_and_not_blocked : row_fault pair (row 0 0 (Wake 0) ∷ []) 0 ≡ Some (NotStarted 2)
unfolding last_below
not_started_and_not_blocked = refl

blocked_before_it_starts : row_fault pair (row 0 0 (Block 0) ∷ []) 0 ≡ Some (NotStarted 2)
unfolding last_below
blocked_before_it_starts = refl

blocked_twice : row_fault pair (row 0 0 (Start 0) ∷ row 0 0 (Block 0) ∷ row 0 0 (Block 0) ∷ []) 2 ≡ Some (NotRunnable 4)
unfolding last_below
blocked_twice = refl

-- a VCPU that is blocked may wake, and then run, or be blocked again
abbrev blocked_and_woken : List Event
blocked_and_woken = row 0 0 (Start 0) ∷ row 1 0 (Block 0) ∷ row 2 0 (Wake 0) ∷ row 3 0 (Run 0) ∷ []

woken_and_run : row_fault pair blocked_and_woken 1 ∷ row_fault pair blocked_and_woken 2
    ∷ row_fault pair blocked_and_woken 3 ∷ [] ≡ None ∷ None ∷ None ∷ []
unfolding last_below
woken_and_run = refl

woken_and_blocked : row_fault pair
    (row 0 0 (Start 0) ∷ row 1 0 (Block 0) ∷ row 2 0 (Wake 0) ∷ row 3 0 (Block 0) ∷ []) 3 ≡ None
unfolding last_below
woken_and_blocked = refl

-- the end that is missing is told of the row behind the last
no_end_of_a_file : LacksFileEnd pair Nanoseconds [] (NoEnd 2)
unfolding last_below
no_end_of_a_file = record { keep = λ i less. absurd (omega arith); no_end = refl; fault_is = refl }

no_end_is_told : IsFileFault pair (Some (Nanoseconds, [])) (NoEnd 2)
no_end_is_told = inr no_end_of_a_file

-- a start, a block and a wake leave the core to the VCPU that has it
a_keeps_its_core : holder (row 0 0 (Run 0) ∷ row 1 0 (Start 1) ∷ []) 2 0
    ∷ holder (row 0 0 (Run 0) ∷ row 2 0 (Block 1) ∷ []) 2 0 ∷ holder (row 0 0 (Run 0) ∷ row 3 0 (Wake 1) ∷ []) 2 0 ∷ []
    ≡ Some 0 ∷ Some 0 ∷ Some 0 ∷ []
unfolding last_below
a_keeps_its_core = refl

-- a stop and a block look at their own core, and a block at its own VCPU
b_stops_while_the_first_core_is_idle : row_fault pair (row 0 1 (Start 1) ∷ row 0 1 (Run 1) ∷ row 1 1 Stop ∷ []) 2 ≡ None
unfolding last_below
b_stops_while_the_first_core_is_idle = refl

idle_while_a_runs : row_fault pair (row 0 0 (Start 0) ∷ row 0 0 (Run 0) ∷ row 1 1 Stop ∷ []) 2 ≡ Some (CoreIdle 4)
unfolding last_below
idle_while_a_runs = refl

b_is_blocked_while_it_runs : row_fault pair (row 0 1 (Start 1) ∷ row 0 1 (Run 1) ∷ row 1 1 (Block 1) ∷ []) 2
    ≡ Some (StillRunning 4)
unfolding last_below
b_is_blocked_while_it_runs = refl

-- a block and a wake name a VCPU, which stands on their core
block_of_no_vcpu : row_fault pair (row 0 0 (Block 2) ∷ []) 0 ≡ Some (Unknown 2)
unfolding last_below
block_of_no_vcpu = refl

wake_of_no_vcpu : row_fault pair (row 0 0 (Wake 2) ∷ []) 0 ≡ Some (Unknown 2)
unfolding last_below
wake_of_no_vcpu = refl

block_on_another_core : row_fault pair (row 0 1 (Block 0) ∷ []) 0 ≡ Some (WrongCore 2)
unfolding last_below
block_on_another_core = refl

-- a VCPU may be blocked while another one has its core
blocked_while_another_runs : row_fault pair (row 0 0 (Run 7) ∷ row 0 0 (Start 0) ∷ row 1 0 (Block 0) ∷ []) 2 ≡ None
unfolding last_below
blocked_while_another_runs = refl

-- the core of an end is 0, and no other core
end_of_the_second_core : row_fault pair (row 0 1 End ∷ []) 0 ≡ Some (Unknown 2)
unfolding last_below
end_of_the_second_core = refl

no_word_but_end : is_row (fields (codes "0") [] (codes "go") []) ≡ false
no_word_but_end = refl

-- and of a list the same; its last row keeps the rules too
no_end_of_a_list : LacksEnd pair [] (NoEnd 2)
unfolding last_below
no_end_of_a_list = record { rows = λ i less. absurd (omega arith); no_end = refl; fault_is = refl }

row_behind_the_end : Kept pair (row 0 0 End ∷ row 0 0 End ∷ []) → ⊥
unfolding last_below
row_behind_the_end kept = none-some (AfterEnd 3) (sym (kept.rows 1 (omega arith)))
