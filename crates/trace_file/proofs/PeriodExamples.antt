-- Worked traces of two VCPUs that differ in all that a period rests on, on which the periods behind
-- the first are computed: A stands on the first core with 1 slot in every 2 and no extra time, and
-- B on the second with 2 slots in every 3. A slot is 1,000 moments.
use Rattle.std.proofs.Common.{◌≡◌, ℕ, true, false, Some, None, List, [], ◌∷◌, refl, arith, inl, inr}
use Rattle.csv_rows.specs.Last.{last_below}
use Rattle.slot_model.specs.Slots.{sum_below}
use Rattle.slot_model.specs.Task.{plain_task}
use Rattle.slot_model.specs.declared.sched.Sched.TheVariants.{Edf}
use Rattle.tree_model.specs.declared.pinned_core.Core.{Core as CoreView}
use Rattle.tree_model.specs.declared.place.Parent.TheVariants.{Core as on_core}
use Rattle.tree_model.specs.View.{PartView, SystemView}
use Rattle.trace_file.specs.declared.event.Event.{Event}
use Rattle.trace_file.specs.declared.event.What.{What}
use Rattle.trace_file.specs.declared.event.What.TheVariants.{Start, Wake, Block, Run, Stop, End}
use Rattle.trace_file.specs.Events.{end_of, start_of, is_blocked_at}
use Rattle.trace_file.specs.Periods.{period_of, budget_of, blocked, running, is_judged, got_in, judged_periods, HasPeriod, IsBroken, IsFirstBroken}

abbrev part_on : ℕ → ℕ → ℕ → ℕ → PartView
part_on core letter period budget =
    record {
      name = letter ∷ [];
      parent = on_core core;
      sched = Edf;
      period = period;
      budget = Some budget;
      extra = false;
      tasks = record { name = 116 ∷ []; task = plain_task 100 100 1 } ∷ [];
    }

abbrev core_named : ℕ → CoreView
core_named letter = record { name = letter ∷ []; sched = Edf; supply = None }

abbrev pair : SystemView
pair = record { cores = core_named 99 ∷ core_named 100 ∷ []; parts = part_on 0 65 2 1 ∷ part_on 1 66 3 2 ∷ [] }

abbrev row : ℕ → ℕ → What → Event
row at core what = record { at = at; core = core; what = what }

-- each has its own period, its own budget and its own core
own_periods : period_of pair 0 ∷ period_of pair 1 ∷ [] ≡ 2000 ∷ 3000 ∷ []
own_periods = refl

own_budgets : budget_of (1 ∷ 2 ∷ []) 0 ∷ budget_of (1 ∷ 2 ∷ []) 1 ∷ [] ≡ 1000 ∷ 2000 ∷ []
own_budgets = refl

-- A has its core in two stretches, and B has its own at the end of the trace
abbrev both_run : List Event
both_run =
    row 0 0 (Start 0) ∷ row 100 1 (Start 1) ∷ row 100 0 (Run 0) ∷ row 1500 0 Stop ∷ row 2000 0 (Run 0) ∷ row 2500 0 Stop
    ∷ row 3000 1 (Run 1) ∷ row 4000 0 End ∷ []

own_cores : running pair both_run 0 2000 ∷ running pair both_run 1 2000 ∷ running pair both_run 0 3500
    ∷ running pair both_run 1 3500 ∷ [] ≡ true ∷ false ∷ false ∷ true ∷ []
unfolding last_below
own_cores = refl

-- the time of a period is that of its own moments, from its first one up to the next period
time_of_each_period : got_in pair both_run 0 0 0 ∷ got_in pair both_run 0 0 1 ∷ [] ≡ 1400 ∷ 500 ∷ []
unfolding last_below sum_below
time_of_each_period = refl

-- and B's first period, which began at its start, ends at 3,100
time_up_to_the_next_period : got_in pair both_run 1 100 0 ∷ got_in pair both_run 1 100 1 ∷ [] ≡ 100 ∷ 900 ∷ []
unfolding last_below sum_below
time_up_to_the_next_period = refl

whole_periods_are_judged : judged_periods pair both_run ≡ 3
unfolding last_below sum_below
whole_periods_are_judged = refl

-- a block at the first moment of A's second period leaves the first one judged, and one at the
-- last moment of the first leaves the second
abbrev blocks_at : ℕ → ℕ → List Event
blocks_at from to = row 0 0 (Start 0) ∷ row from 0 (Block 0) ∷ row to 0 (Wake 0) ∷ row 4000 0 End ∷ []

blocked_in_the_second : is_judged (blocked (blocks_at 2000 2001) 0) 2000 0 4000 0
    ∷ is_judged (blocked (blocks_at 2000 2001) 0) 2000 0 4000 1 ∷ [] ≡ true ∷ false ∷ []
unfolding last_below sum_below
blocked_in_the_second = refl

blocked_in_the_first : is_judged (blocked (blocks_at 1999 2000) 0) 2000 0 4000 0
    ∷ is_judged (blocked (blocks_at 1999 2000) 0) 2000 0 4000 1 ∷ [] ≡ false ∷ true ∷ []
unfolding last_below sum_below
blocked_in_the_first = refl

-- what happens to B changes nothing for A, and no block or wake moves a start
abbrev both_change : List Event
both_change =
    row 0 0 (Start 0) ∷ row 1 0 (Block 0) ∷ row 2 1 (Start 1) ∷ row 3 1 (Block 1) ∷ row 4 1 (Wake 1) ∷ row 5 0 (Wake 0)
    ∷ row 6 0 End ∷ []

a_is_blocked : is_blocked_at both_change 0 0 ∷ is_blocked_at both_change 0 1 ∷ is_blocked_at both_change 0 2
    ∷ is_blocked_at both_change 0 4 ∷ is_blocked_at both_change 0 5 ∷ [] ≡ false ∷ true ∷ true ∷ true ∷ false ∷ []
unfolding last_below
a_is_blocked = refl

b_is_blocked : is_blocked_at both_change 1 2 ∷ is_blocked_at both_change 1 3 ∷ is_blocked_at both_change 1 4 ∷ []
    ≡ false ∷ true ∷ false ∷ []
unfolding last_below
b_is_blocked = refl

both_start_once : start_of both_change 0 ∷ start_of both_change 1 ∷ [] ≡ Some 0 ∷ Some 2 ∷ []
unfolding last_below
both_start_once = refl

-- A is over in its first period and short in its second, which is not the first that is broken
abbrev budgets : List ℕ
budgets = 1 ∷ 2 ∷ []

time_of_the_first : got_in pair both_run 0 0 0 ≡ 1400
unfolding last_below sum_below
time_of_the_first = refl

time_of_the_second : got_in pair both_run 0 0 1 ≡ 500
unfolding last_below sum_below
time_of_the_second = refl

second_is_judged : is_judged (blocked both_run 0) (period_of pair 0) 0 (end_of both_run) 1 ≡ true
unfolding last_below sum_below
second_is_judged = refl

first_is_broken : IsBroken pair budgets both_run 0 0 0
unfolding last_below
first_is_broken =
    inr (record {
      period = record { is_part = omega arith; started = refl; in_trace = omega arith };
      no_extra = refl;
      over = omega (arith, time_of_the_first);
    })

second_is_broken : IsBroken pair budgets both_run 0 0 1
unfolding last_below
second_is_broken =
    inl (record {
      period = record { is_part = omega arith; started = refl; in_trace = omega arith };
      judged = second_is_judged;
      short = omega (arith, time_of_the_second);
    })

second_is_not_the_first : IsFirstBroken pair budgets both_run 0 0 1 → ⊥
second_is_not_the_first b = absurd (omega (arith, b.least 0 0 0 first_is_broken))

no_period_begins_at_the_end : HasPeriod pair both_run 0 0 2 → ⊥
no_period_begins_at_the_end p = absurd (omega (arith, p.in_trace))

-- of two that begin at one moment that of A comes first
abbrev neither_runs : List Event
neither_runs = row 0 0 (Start 0) ∷ row 0 1 (Start 1) ∷ row 3000 0 End ∷ []

a_gets_nothing : got_in pair neither_runs 0 0 0 ≡ 0
unfolding last_below sum_below
a_gets_nothing = refl

a_is_judged : is_judged (blocked neither_runs 0) (period_of pair 0) 0 (end_of neither_runs) 0 ≡ true
unfolding last_below sum_below
a_is_judged = refl

a_is_broken : IsBroken pair budgets neither_runs 0 0 0
unfolding last_below
a_is_broken =
    inl (record {
      period = record { is_part = omega arith; started = refl; in_trace = omega arith };
      judged = a_is_judged;
      short = omega (arith, a_gets_nothing);
    })

b_is_not_the_first : IsFirstBroken pair budgets neither_runs 1 0 0 → ⊥
b_is_not_the_first b = b.first 0 0 0 (omega arith) a_is_broken refl
