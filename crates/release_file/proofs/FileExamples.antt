-- Worked rows, on which the rules are computed: A with the tasks t1, of 7 slots in 50 with a jitter
-- of 5, and t2, of 9 slots in 75; and B, without tasks, on which C stands.
use Rattle.std.proofs.Common.{◌≡◌, ◌≢◌, ℕ, zero, suc, ◌+◌, ◌<◌, ◌≤◌, Bool, true, false, ◌||◌, Some, None, is_some, if◌then◌else◌, List, [], ◌∷◌, codes, refl, arith, lit<, lit≤}
use Rattle.std.specs.Prelude.{bytes_eq, unwrap_or}
use Rattle.csv_rows.specs.Last.{last_below}
use Rattle.slot_model.specs.declared.task.TheConstants.{LIMIT}
use Rattle.slot_model.specs.declared.sched.Sched.TheVariants.{Edf}
use Rattle.slot_model.specs.Task.{early_job, jittery_task, plain_task}
use Rattle.tree_model.specs.declared.place.Parent.{Parent}
use Rattle.tree_model.specs.declared.place.Parent.TheVariants.{Core as on_core, Part as on_part}
use Rattle.tree_model.specs.View.{NamedTask, PartView, SystemView}
use Rattle.tree_model.proofs.FewPlaces.{both}
use Rattle.release_file.specs.declared.fault.ReleaseFault.TheVariants.{BadHeader, BadRow, Unknown, OutOfRange, TooEarly, BadOrder}
use Rattle.release_file.specs.declared.release_spelling.Version.TheVariants.{First, Second}
use Rattle.trace_file.specs.Rules.{is_vcpu}
use Rattle.release_file.specs.declared.workload.Wake.{Wake}
use Rattle.release_file.specs.declared.workload.WakeKind.{WakeKind}
use Rattle.release_file.specs.declared.workload.WakeKind.TheVariants.{Start, Wake as ToWake, Block}
use Rattle.release_file.specs.Workload.{row_at, last_row, is_of, is_started_at, is_blocked_at, is_started, start_of, may_follow, IsWorkload}
use Rattle.release_file.specs.WorkloadFile.{kind_named, wakes_of, wake_rules, wake_rows, IsWorkloadFault}
use Rattle.release_file.specs.ReleaseFile.{jobs_of, releases_of, release_rules, release_rows, IsReleasesFault}

abbrev part : ℕ → Parent → List NamedTask → PartView
part letter parent tasks =
    record
    { name = letter ∷ []; parent = parent; sched = Edf; period = 10; budget = Some 3; extra = false; tasks = tasks }

abbrev own : List NamedTask
own =
    record { name = codes "t1"; task = jittery_task 50 50 7 5 }
    ∷ record { name = codes "t2"; task = plain_task 75 75 9 } ∷ []

abbrev host : SystemView
host = record {
  cores = record { name = codes "cpu0"; sched = Edf; supply = None } ∷ [];
  parts =
      part 65 (on_core 0) own ∷ part 66 (on_core 0) []
      ∷ part 67 (on_part 1) (record { name = codes "t1"; task = plain_task 100 100 1 } ∷ []) ∷ [];
}

abbrev Row : Type 0
Row = List (List ℕ)

-- rows of a workload
abbrev a_starts : Row
a_starts = codes "0" ∷ codes "A" ∷ codes "start" ∷ []

abbrev a_blocks : Row
a_blocks = codes "3" ∷ codes "A" ∷ codes "block" ∷ []

abbrev a_wakes : ℕ → Row
a_wakes digit = (digit ∷ []) ∷ codes "A" ∷ codes "wake" ∷ []

-- each word and what it does
the_words : (word : List ℕ)
    → (is_some (kind_named word)
    ≡ bytes_eq word (codes "start") || bytes_eq word (codes "wake") || bytes_eq word (codes "block"))
    × (unwrap_or (kind_named word) Block
    ≡ (if bytes_eq word (codes "start") then Start else if bytes_eq word (codes "wake") then ToWake else Block))
the_words word =
    told (bytes_eq word (codes "start")) (bytes_eq word (codes "wake")) (bytes_eq word (codes "block"))
  where
    told : (s w b : Bool)
        → (is_some (if s then Some Start else if w then Some ToWake else if b then Some Block else None) ≡ s || w || b)
        × (unwrap_or (if s then Some Start else if w then Some ToWake else if b then Some Block else None) Block
        ≡ (if s then Start else if w then ToWake else Block))
    told true w b = (refl, refl)
    told false true b = (refl, refl)
    told false false true = (refl, refl)
    told false false false = (refl, refl)

they_spell : wakes_of host (a_starts ∷ a_blocks ∷ a_wakes 53 ∷ [])
    ≡ record { at = 0; vcpu = 0; what = Start } ∷ record { at = 3; vcpu = 0; what = Block }
    ∷ record { at = 5; vcpu = 0; what = ToWake } ∷ []
they_spell = refl

a_wake_behind_a_block : wake_rules host (a_starts ∷ a_blocks ∷ []) (a_wakes 53) ≡ None
unfolding last_below
a_wake_behind_a_block = refl

a_second_row_at_a_slot : wake_rules host (a_starts ∷ a_blocks ∷ []) (a_wakes 51) ≡ Some (BadOrder 4)
unfolding last_below
a_second_row_at_a_slot = refl

a_wake_of_one_that_runs : wake_rules host (a_starts ∷ []) (a_wakes 51) ≡ Some (BadOrder 3)
unfolding last_below
a_wake_of_one_that_runs = refl

a_block_of_one_that_is_blocked : wake_rules host (a_starts ∷ a_blocks ∷ []) (codes "4" ∷ codes "A" ∷ codes "block" ∷ [])
    ≡ Some (BadOrder 4)
unfolding last_below
a_block_of_one_that_is_blocked = refl

a_start_of_one_that_is_blocked : wake_rules host (a_starts ∷ a_blocks ∷ []) (codes "4" ∷ codes "A" ∷ codes "start" ∷ [])
    ≡ Some (BadOrder 4)
unfolding last_below
a_start_of_one_that_is_blocked = refl

a_start_past_the_longest_period : wake_rules host [] (codes "1000000001" ∷ codes "A" ∷ codes "start" ∷ [])
    ≡ Some (OutOfRange 2)
a_start_past_the_longest_period = refl

a_wake_before_the_start : wake_rules host [] (a_wakes 48) ≡ Some (BadOrder 2)
unfolding last_below
a_wake_before_the_start = refl

a_block_before_the_start : wake_rules host [] (codes "0" ∷ codes "A" ∷ codes "block" ∷ []) ≡ Some (BadOrder 2)
unfolding last_below
a_block_before_the_start = refl

-- no VCPU starts twice, and one that was woken may block again
a_second_start : (wake_rules host (a_starts ∷ []) (codes "4" ∷ codes "A" ∷ codes "start" ∷ []) ≡ Some (BadOrder 3))
    × (wake_rules host (a_starts ∷ a_blocks ∷ a_wakes 53 ∷ []) (codes "6" ∷ codes "A" ∷ codes "start" ∷ [])
    ≡ Some (BadOrder 5))
unfolding last_below
a_second_start = (refl, refl)

a_block_behind_a_wake :
    wake_rules host (a_starts ∷ a_blocks ∷ a_wakes 53 ∷ []) (codes "6" ∷ codes "A" ∷ codes "block" ∷ []) ≡ None
unfolding last_below
a_block_behind_a_wake = refl

-- at one slot another VCPU may have a row too, whatever the first one did
another_vcpu_at_the_same_slot :
    wake_rules host (a_starts ∷ a_blocks ∷ []) (codes "3" ∷ codes "B" ∷ codes "start" ∷ []) ≡ None
unfolding last_below
another_vcpu_at_the_same_slot = refl

an_inner_parts_child_is_no_vcpu : wake_rules host [] (codes "0" ∷ codes "C" ∷ codes "start" ∷ []) ≡ Some (Unknown 2)
an_inner_parts_child_is_no_vcpu = refl

a_falling_slot : wake_rules host (a_starts ∷ a_blocks ∷ []) (codes "2" ∷ codes "B" ∷ codes "start" ∷ [])
    ≡ Some (BadOrder 4)
a_falling_slot = refl

another_word : wake_rules host [] (codes "0" ∷ codes "A" ∷ codes "run" ∷ []) ≡ Some (BadRow 2)
another_word = refl

-- a slot is a plain number, without a leading zero; and a row has no field less or more
no_slots : (wake_rules host [] (codes "x" ∷ codes "A" ∷ codes "start" ∷ []) ≡ Some (BadRow 2))
    × (wake_rules host [] (codes "01" ∷ codes "A" ∷ codes "start" ∷ []) ≡ Some (BadRow 2))
    × (wake_rules host [] ([] ∷ codes "A" ∷ codes "start" ∷ []) ≡ Some (BadRow 2))
no_slots = (refl, refl, refl)

two_and_four_fields : (wake_rules host [] (codes "0" ∷ codes "A" ∷ []) ≡ Some (BadRow 2))
    × (wake_rules host [] (codes "0" ∷ codes "A" ∷ codes "start" ∷ [] ∷ []) ≡ Some (BadRow 2))
two_and_four_fields = (refl, refl)

-- the longest period is the last slot
a_start_at_the_longest_period : wake_rules host [] (codes "1000000000" ∷ codes "A" ∷ codes "start" ∷ []) ≡ None
unfolding last_below
a_start_at_the_longest_period = refl

-- rows that break two rules: no row goes before a slot past the limit, that before the name, a slot
-- that falls before the name, and the name before what may follow
another_word_past_the_longest_period : wake_rules host [] (codes "1000000001" ∷ codes "A" ∷ codes "run" ∷ [])
    ≡ Some (BadRow 2)
another_word_past_the_longest_period = refl

no_vcpu_past_the_longest_period : wake_rules host [] (codes "1000000001" ∷ codes "C" ∷ codes "start" ∷ [])
    ≡ Some (OutOfRange 2)
no_vcpu_past_the_longest_period = refl

a_wake_past_the_longest_period : wake_rules host [] (codes "1000000001" ∷ codes "A" ∷ codes "wake" ∷ [])
    ≡ Some (OutOfRange 2)
a_wake_past_the_longest_period = refl

no_vcpu_at_a_falling_slot :
    wake_rules host (a_starts ∷ a_blocks ∷ []) (codes "2" ∷ codes "C" ∷ codes "start" ∷ []) ≡ Some (BadOrder 4)
no_vcpu_at_a_falling_slot = refl

a_wake_of_no_vcpu : wake_rules host [] (codes "0" ∷ codes "C" ∷ codes "wake" ∷ []) ≡ Some (Unknown 2)
a_wake_of_no_vcpu = refl

a_header_of_three_fields : wake_rows ((codes "at" ∷ codes "vcpu" ∷ codes "what" ∷ []) ∷ a_starts ∷ [])
    ≡ Some (a_starts ∷ [])
a_header_of_three_fields = refl

a_header_of_four_fields_is_none : wake_rows ((codes "at" ∷ codes "vcpu" ∷ codes "what" ∷ codes "why" ∷ []) ∷ []) ≡ None
a_header_of_four_fields_is_none = refl

-- each of the three words counts, and without a header nothing is a workload
no_wake_headers : (wake_rows ((codes "slot" ∷ codes "vcpu" ∷ codes "what" ∷ []) ∷ []) ≡ None)
    × (wake_rows ((codes "at" ∷ codes "dom" ∷ codes "what" ∷ []) ∷ []) ≡ None)
    × (wake_rows ((codes "at" ∷ codes "vcpu" ∷ codes "why" ∷ []) ∷ []) ≡ None)
    × (wake_rows ((codes "at" ∷ codes "vcpu" ∷ []) ∷ []) ≡ None) × (wake_rows [] ≡ None)
no_wake_headers = (refl, refl, refl, refl, refl)

no_wake_header_is_told : IsWorkloadFault host (wake_rows []) BadHeader
no_wake_header_is_told = refl

-- what such rows are together, and what they are not
abbrev wake : ℕ → ℕ → WakeKind → Wake
wake at vcpu what = record { at = at; vcpu = vcpu; what = what }

abbrev start_and_block : List Wake
start_and_block = wake 0 0 Start ∷ wake 3 0 Block ∷ []

a_start_and_a_block_are_a_workload : IsWorkload host start_and_block
unfolding last_below
a_start_and_a_block_are_a_workload = record {
  in_limit = both (λ i. (row_at start_and_block i).at ≤ LIMIT) (lit≤ tt) (lit≤ tt);
  in_order = in_order;
  known = both (λ i. is_vcpu host (row_at start_and_block i).vcpu ≡ true) refl refl;
  one_a_slot = one_a_slot;
  in_turn =
      both (λ i. may_follow (last_row (is_of (row_at start_and_block i).vcpu) start_and_block i)
      (row_at start_and_block i).what ≡ true) refl refl;
}
  where
    in_order : (i : ℕ) → i + 1 < 2 → (row_at start_and_block i).at ≤ (row_at start_and_block (i + 1)).at
    in_order zero h = lit≤ tt
    in_order (suc i) h = absurd (omega arith)

    one_a_slot : (i j : ℕ) → i < j → j < 2 → (row_at start_and_block i).vcpu ≡ (row_at start_and_block j).vcpu
        → (row_at start_and_block i).at ≢ (row_at start_and_block j).at
    one_a_slot zero (suc zero) l h same = λ e. omega (arith, e)
    one_a_slot i (suc (suc j)) l h same = absurd (omega arith)
    one_a_slot i j l h same = absurd (omega arith)

two_rows_of_a_vcpu_at_a_slot_are_none : IsWorkload host (wake 3 0 Start ∷ wake 3 0 Block ∷ []) → ⊥
two_rows_of_a_vcpu_at_a_slot_are_none is = is.one_a_slot 0 1 (lit< tt) (lit< tt) refl refl

a_row_before_the_row_before_is_none : IsWorkload host (wake 3 0 Start ∷ wake 2 1 Start ∷ []) → ⊥
a_row_before_the_row_before_is_none is = let rises : 3 ≤ 2 = is.in_order 0 (lit< tt) in omega arith

a_child_of_a_part_is_no_vcpu_of_one : IsWorkload host (wake 0 2 Start ∷ []) → ⊥
a_child_of_a_part_is_no_vcpu_of_one is = let known : false ≡ true = is.known 0 (lit< tt) in cc

a_wake_without_a_start_is_none : IsWorkload host (wake 0 0 ToWake ∷ []) → ⊥
unfolding last_below
a_wake_without_a_start_is_none is = let turn : false ≡ true = is.in_turn 0 (lit< tt) in cc

a_row_past_the_longest_period_is_none : IsWorkload host (wake 1000000001 0 Start ∷ []) → ⊥
a_row_past_the_longest_period_is_none is = let within : 1000000001 ≤ 1000000000 = is.in_limit 0 (lit< tt) in omega arith

-- A starts at 1, blocks at 3 and wakes at 5, where B starts
abbrev four_rows : List Wake
four_rows = wake 1 0 Start ∷ wake 3 0 Block ∷ wake 5 0 ToWake ∷ wake 5 1 Start ∷ []

from_its_start_on_a_vcpu_is_started : (is_started_at four_rows 0 0 ≡ false) × (is_started_at four_rows 0 1 ≡ true)
    × (is_started_at four_rows 1 4 ≡ false) × (is_started_at four_rows 1 5 ≡ true)
unfolding last_below
from_its_start_on_a_vcpu_is_started = (refl, refl, refl, refl)

from_its_block_up_to_its_wake_it_is_blocked : (is_blocked_at four_rows 0 2 ≡ false)
    × (is_blocked_at four_rows 0 3 ≡ true) × (is_blocked_at four_rows 0 4 ≡ true)
    × (is_blocked_at four_rows 0 5 ≡ false)
unfolding last_below
from_its_block_up_to_its_wake_it_is_blocked = (refl, refl, refl, refl)

its_start_is_told_with_its_slot : (is_started four_rows 0 ≡ true) × (is_started four_rows 2 ≡ false)
    × (start_of four_rows 0 ≡ 1) × (start_of four_rows 1 ≡ 5)
unfolding last_below
its_start_is_told_with_its_slot = (refl, refl, refl, refl)

-- rows of releases
abbrev first_of : List ℕ → List ℕ → List ℕ → List ℕ → Row
first_of at part task work = at ∷ part ∷ task ∷ work ∷ []

abbrev second_of : List ℕ → List ℕ → List ℕ → Row
second_of at work early = at ∷ codes "A" ∷ codes "t1" ∷ work ∷ early ∷ []

abbrev t1_at_0 : Row
t1_at_0 = first_of (codes "0") (codes "A") (codes "t1") (codes "7")

abbrev late_at_0 : Row
late_at_0 = second_of (codes "0") (codes "7") (codes "5")

jobs_go_to_their_parts : jobs_of 0 (releases_of host First (t1_at_0
    ∷ first_of (codes "0") (codes "C") (codes "t1") (codes "1")
    ∷ first_of (codes "2") (codes "A") (codes "t2") (codes "9") ∷ []))
    ≡ early_job 0 0 7 0 ∷ early_job 1 2 9 0 ∷ []
jobs_go_to_their_parts = refl

a_period_after : release_rules host First (t1_at_0 ∷ []) (first_of (codes "50") (codes "A") (codes "t1") (codes "7"))
    ≡ None
a_period_after = refl

a_slot_less : release_rules host First (t1_at_0 ∷ []) (first_of (codes "49") (codes "A") (codes "t1") (codes "7"))
    ≡ Some (TooEarly 3)
a_slot_less = refl

a_slot_before_that_of_the_row_before : release_rules host First
    (t1_at_0 ∷ first_of (codes "50") (codes "A") (codes "t1") (codes "7") ∷ [])
    (first_of (codes "49") (codes "A") (codes "t2") (codes "9")) ≡ Some (BadOrder 4)
a_slot_before_that_of_the_row_before = refl

a_slot_past_the_longest_period : release_rules host First []
    (first_of (codes "1000000001") (codes "A") (codes "t1") (codes "7")) ≡ Some (OutOfRange 2)
a_slot_past_the_longest_period = refl

another_task_at_the_same_slot : release_rules host First (t1_at_0 ∷ [])
    (first_of (codes "0") (codes "A") (codes "t2") (codes "9")) ≡ None
another_task_at_the_same_slot = refl

-- the task of a name in another part is another one, but the slots rise over all parts
another_part_at_the_same_slot : release_rules host First (t1_at_0 ∷ [])
    (first_of (codes "0") (codes "C") (codes "t1") (codes "1")) ≡ None
another_part_at_the_same_slot = refl

another_part_at_a_falling_slot : release_rules host First
    (first_of (codes "5") (codes "A") (codes "t1") (codes "7") ∷ [])
    (first_of (codes "4") (codes "C") (codes "t1") (codes "1")) ≡ Some (BadOrder 3)
another_part_at_a_falling_slot = refl

-- the first arrived at -5, so the next may arrive at 45
an_arrival_a_period_after : release_rules host Second (late_at_0 ∷ []) (second_of (codes "45") (codes "7") (codes "0"))
    ≡ None
an_arrival_a_period_after = refl

an_arrival_a_slot_less : release_rules host Second (late_at_0 ∷ []) (second_of (codes "44") (codes "7") (codes "0"))
    ≡ Some (TooEarly 3)
an_arrival_a_slot_less = refl

past_the_jitter : release_rules host Second [] (second_of (codes "0") (codes "7") (codes "6")) ≡ Some (OutOfRange 2)
past_the_jitter = refl

more_than_the_work : release_rules host First [] (first_of (codes "0") (codes "A") (codes "t1") (codes "8"))
    ≡ Some (OutOfRange 2)
more_than_the_work = refl

no_work : release_rules host First [] (first_of (codes "0") (codes "A") (codes "t1") (codes "0")) ≡ Some (OutOfRange 2)
no_work = refl

an_inner_part : release_rules host First [] (first_of (codes "0") (codes "B") (codes "t1") (codes "1"))
    ≡ Some (Unknown 2)
an_inner_part = refl

no_such_task : release_rules host First [] (first_of (codes "0") (codes "C") (codes "t2") (codes "1"))
    ≡ Some (Unknown 2)
no_such_task = refl

five_fields_under_version_1 : release_rules host First [] late_at_0 ≡ Some (BadRow 2)
five_fields_under_version_1 = refl

-- each number of a row is a plain one
no_plain_numbers : (release_rules host First [] (first_of (codes "01") (codes "A") (codes "t1") (codes "7"))
    ≡ Some (BadRow 2))
    × (release_rules host First [] (first_of (codes "0") (codes "A") (codes "t1") (codes "x")) ≡ Some (BadRow 2))
    × (release_rules host Second [] (second_of (codes "x") (codes "7") (codes "5")) ≡ Some (BadRow 2))
    × (release_rules host Second [] (second_of (codes "0") (codes "07") (codes "5")) ≡ Some (BadRow 2))
    × (release_rules host Second [] (second_of (codes "0") (codes "7") (codes "x")) ≡ Some (BadRow 2))
    × (release_rules host Second [] (second_of (codes "0") (codes "7") (codes "01")) ≡ Some (BadRow 2))
no_plain_numbers = (refl, refl, refl, refl, refl, refl)

four_fields_under_version_2 : release_rules host Second [] t1_at_0 ≡ Some (BadRow 2)
four_fields_under_version_2 = refl

-- the longest period is the last slot, and a job may ask for one slot and come by its whole jitter
-- before its release
a_slot_at_the_longest_period : release_rules host First []
    (first_of (codes "1000000000") (codes "A") (codes "t1") (codes "7")) ≡ None
a_slot_at_the_longest_period = refl

the_least_work : release_rules host First [] (first_of (codes "0") (codes "A") (codes "t1") (codes "1")) ≡ None
the_least_work = refl

the_whole_jitter : release_rules host Second [] late_at_0 ≡ None
the_whole_jitter = refl

-- rows that break two rules: no row goes before a slot past the limit, that before the name, a slot
-- that falls before the name, the name before the work, and the work before the arrival
no_number_past_the_longest_period : release_rules host First []
    (first_of (codes "1000000001") (codes "A") (codes "t1") (codes "07")) ≡ Some (BadRow 2)
no_number_past_the_longest_period = refl

no_task_past_the_longest_period : release_rules host First []
    (first_of (codes "1000000001") (codes "A") (codes "t3") (codes "7")) ≡ Some (OutOfRange 2)
no_task_past_the_longest_period = refl

no_task_at_a_falling_slot : release_rules host First (first_of (codes "5") (codes "A") (codes "t1") (codes "7") ∷ [])
    (first_of (codes "4") (codes "A") (codes "t3") (codes "7")) ≡ Some (BadOrder 3)
no_task_at_a_falling_slot = refl

no_work_at_a_falling_slot : release_rules host First (first_of (codes "5") (codes "A") (codes "t1") (codes "7") ∷ [])
    (first_of (codes "4") (codes "A") (codes "t2") (codes "0")) ≡ Some (BadOrder 3)
no_work_at_a_falling_slot = refl

no_work_of_no_task : release_rules host First [] (first_of (codes "0") (codes "A") (codes "t3") (codes "0"))
    ≡ Some (Unknown 2)
no_work_of_no_task = refl

more_than_the_work_too_early : release_rules host First (t1_at_0 ∷ [])
    (first_of (codes "49") (codes "A") (codes "t1") (codes "8")) ≡ Some (OutOfRange 3)
more_than_the_work_too_early = refl

past_the_jitter_too_early : release_rules host Second (late_at_0 ∷ []) (second_of (codes "44") (codes "7") (codes "6"))
    ≡ Some (OutOfRange 3)
past_the_jitter_too_early = refl

headers : release_rows ((codes "at" ∷ codes "part" ∷ codes "task" ∷ codes "work" ∷ []) ∷ t1_at_0 ∷ [])
    ≡ Some (First, t1_at_0 ∷ [])
headers = refl

-- the header of version 2, and two that are of neither
headers_of_five_fields :
    (release_rows ((codes "at" ∷ codes "part" ∷ codes "task" ∷ codes "work" ∷ codes "early" ∷ []) ∷ late_at_0 ∷ [])
    ≡ Some (Second, late_at_0 ∷ []))
    × (release_rows ((codes "at" ∷ codes "part" ∷ codes "task" ∷ codes "work" ∷ codes "late" ∷ []) ∷ []) ≡ None)
    × (release_rows ((codes "at" ∷ codes "part" ∷ codes "work" ∷ codes "task" ∷ []) ∷ []) ≡ None)
headers_of_five_fields = (refl, refl, refl)

-- each word of a header counts, and without a header nothing is a release file
no_headers : (release_rows ((codes "slot" ∷ codes "part" ∷ codes "task" ∷ codes "work" ∷ []) ∷ []) ≡ None)
    × (release_rows ((codes "at" ∷ codes "vcpu" ∷ codes "task" ∷ codes "work" ∷ []) ∷ []) ≡ None)
    × (release_rows ((codes "at" ∷ codes "part" ∷ codes "job" ∷ codes "work" ∷ []) ∷ []) ≡ None)
    × (release_rows ((codes "at" ∷ codes "part" ∷ codes "task" ∷ codes "wcet" ∷ []) ∷ []) ≡ None)
    × (release_rows ((codes "slot" ∷ codes "part" ∷ codes "task" ∷ codes "work" ∷ codes "early" ∷ []) ∷ []) ≡ None)
    × (release_rows ((codes "at" ∷ codes "part" ∷ codes "task" ∷ []) ∷ []) ≡ None) × (release_rows [] ≡ None)
no_headers = (refl, refl, refl, refl, refl, refl, refl)

no_header_is_told : IsReleasesFault host (release_rows []) BadHeader
no_header_is_told = refl
