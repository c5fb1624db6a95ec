-- What is printed of the worked runs.
use Rattle.std.proofs.Common.{◌≡◌, ℕ, true, false, if◌then◌else◌, Option, Some, None, [], ◌∷◌, refl}
use Rattle.slot_model.specs.Run.{holds}
use Rattle.csv_rows.specs.Last.{last_below}
use Rattle.trace_file.specs.declared.event.Event.{Event}
use Rattle.trace_file.specs.declared.event.What.{What}
use Rattle.trace_file.specs.declared.event.What.TheVariants.{Start as Starts, Wake as Wakes, Block as Blocks, Run, Stop, End}
use Rattle.rtds_trace.specs.Printed.{gathered, switch_to, printed_below, printed}
use Rattle.rtds_model.proofs.Examples.{host, both_start, with_extra, without_extra, one_blocks, blocked_run}
use Rattle.rtds_model.proofs.LevelExamples.{core_each, b_before_a, a_twice, b_twice}

abbrev event : ℕ → What → Event
event at what = record { at = at; core = 0; what = what }

with_extra_printed : printed (host true) both_start (with_extra ∷ []) 10
    ≡ event 0 (Starts 0) ∷ event 0 (Starts 1) ∷ event 0 (Run 0) ∷ event 3000 (Run 1) ∷ event 7000 (Run 0)
    ∷ event 10000 End ∷ []
unfolding printed_below gathered last_below
with_extra_printed = refl

without_extra_printed : printed (host false) both_start (without_extra ∷ []) 12
    ≡ event 0 (Starts 0) ∷ event 0 (Starts 1) ∷ event 0 (Run 0) ∷ event 3000 (Run 1) ∷ event 7000 Stop
    ∷ event 10000 (Run 0) ∷ event 12000 End ∷ []
unfolding printed_below gathered last_below
without_extra_printed = refl

blocked_printed : printed (host false) one_blocks (blocked_run ∷ []) 12
    ≡ event 1000 (Starts 0) ∷ event 1000 (Run 0) ∷ event 2000 Stop ∷ event 2000 (Starts 1) ∷ event 2000 (Blocks 0)
    ∷ event 2000 (Run 1) ∷ event 4000 (Wakes 0) ∷ event 4000 (Run 0) ∷ event 6000 (Run 1) ∷ event 8000 Stop
    ∷ event 11000 (Run 0) ∷ event 12000 End ∷ []
unfolding printed_below gathered last_below
blocked_printed = refl

-- rows past the end are not printed, and a row at the end is none of them
rows_past_the_end : printed (host false) one_blocks ((None ∷ []) ∷ []) 1 ≡ event 1000 End ∷ []
unfolding printed_below gathered last_below
rows_past_the_end = refl

-- A on core 0 and B on core 1: at each slot first the cores stop, then come the rows as they stand
-- in the file, and then the cores run, each time core 0 before core 1
abbrev on : ℕ → ℕ → What → Event
on c at what = record { at = at; core = c; what = what }

each_core_printed : printed core_each b_before_a (a_twice ∷ b_twice ∷ []) 3
    ≡ on 1 0 (Starts 1) ∷ on 0 0 (Starts 0) ∷ on 0 0 (Run 0) ∷ on 1 0 (Run 1)
    ∷ on 0 2000 Stop ∷ on 1 2000 Stop ∷ on 1 2000 (Blocks 1) ∷ on 0 2000 (Blocks 0)
    ∷ on 0 3000 End ∷ []
unfolding printed_below gathered last_below
each_core_printed = refl

-- a core tells nothing where it goes on being idle, stops where it goes to none, and else tells a
-- VCPU that it does not have
idle_goes_on : switch_to None None ≡ None
idle_goes_on = refl

goes_to_none : (u : ℕ) → switch_to (Some u) None ≡ Some Stop
goes_to_none u = refl

goes_to_one : (holder : Option ℕ) (v : ℕ) → switch_to holder (Some v) ≡ (if holds holder v then None else Some (Run v))
goes_to_one None v = refl
goes_to_one (Some u) v = refl
