-- Worked cores: what is asked of the last slots of a period, who is isolated and by how many, and a
-- run in which one that is not falls short. A definition that says otherwise breaks one of these.
use Rattle.std.proofs.Common.{◌≡◌, ℕ, zero, suc, ◌*◌, nat_lt, ◌<◌, ◌≤◌, length, true, false, Bool, Option, Some, None, List, [], ◌∷◌, refl, sym, subst, arith, lit<, lit≤}
use Rattle.std.specs.Prelude.{All}
use Rattle.std.proofs.lemmas.Bool.{and_parts, ltb-true}
use Rattle.std.proofs.lemmas.Bool.Decides.{nat_tests}
use Rattle.csv_rows.specs.Last.{last_below}
use Rattle.slot_model.specs.Slots.{sum_below, count_below}
use Rattle.slot_model.specs.Run.{held}
use Rattle.slot_model.specs.declared.sched.Sched.TheVariants.{Edf}
use Rattle.tree_model.specs.declared.pinned_core.Core.{Core as CoreView}
use Rattle.tree_model.specs.declared.place.Parent.{Parent}
use Rattle.tree_model.specs.declared.place.Parent.TheVariants.{Core as on_core, Part as on_part}
use Rattle.tree_model.specs.View.{PartView, SystemView}
use Rattle.release_file.specs.declared.workload.Wake.{Wake}
use Rattle.release_file.specs.declared.workload.WakeKind.{WakeKind}
use Rattle.release_file.specs.declared.workload.WakeKind.TheVariants.{Start, Wake as ToWake, Block}
use Rattle.release_file.specs.Workload.{start_of, is_blocked_at, IsWorkload}
use Rattle.rtds_model.specs.Rtds.{CoreRun, deadline_at, is_eligible, level_at}
use Rattle.rtds_trace.specs.Printed.{IsRtdsTrace}
use Rattle.rtds_model.proofs.Runs.{better, choice, chosen, is_run}
use Rattle.rtds_model.specs.Demand.{deferrable_demand, later}
use Rattle.isolation.specs.Demand.{no_tie, asked, IsIsolatedBy}
use Rattle.isolation.specs.inner.Whole.{whole_asked}
use Rattle.isolation.specs.Open.{goes_sooner, OpenEntry, OpenRun}
use Rattle.isolation.specs.Keeping.{got_in, IsAwakeLast, IsBreakable, IsExposed, KeepsBudget, KeepsOpenly}
use Rattle.isolation.specs.InTrace.{IsRunLength, IsAwakeInTrace, KeepsInTrace, CanBeShort, IsExposedInTrace}
use Rattle.isolation.specs.declared.isolation.Isolation.{Isolation}
use Rattle.isolation.specs.declared.isolation.Isolation.TheVariants.{Isolated, ByTies, ByBlock}
use Rattle.isolation.specs.declared.vcpus.PartIsolation.{PartIsolation}
use Rattle.isolation.specs.declared.budgets.CoreBudgets.{CoreBudgets}
use Rattle.isolation.specs.Short.{budgets_on, FitsShortest}
use Rattle.isolation.specs.Budgets.{has_part, used_cores, IsShortest, IsCoreBudgets, AreCoreBudgets}
use Rattle.isolation.proofs.Sums.{fits_shortest, one_list_of_budgets}
use Rattle.isolation.specs.Answers.{own_core, vcpus_of, are_isolated}
use Rattle.trace_file.specs.declared.event.Event.{Event}
use Rattle.trace_file.specs.declared.event.What.{What}
use Rattle.trace_file.specs.declared.event.What.TheVariants.{Start as Starts, Wake as Wakes, Block as Blocks, End}
use Rattle.trace_file.specs.Periods.{blocked, budget_of, got_in as got_in_trace, IsShort}
use Rattle.tree_model.specs.Tree.{budget_at, is_child}
use Rattle.tree_model.specs.System.{part_at}
use Rattle.tree_model.specs.declared.place.Place.TheVariants.{Core}
use Rattle.rtds_model.specs.Giving.{ServersFit}

abbrev server : Parent → ℕ → ℕ → Bool → PartView
server parent period budget extra =
    record
    { name = 65 ∷ []; parent = parent; sched = Edf; period = period; budget = Some budget; extra = extra; tasks = [] }

abbrev core : CoreView
core = record { name = 99 ∷ []; sched = Edf; supply = None }

abbrev system : List PartView → SystemView
system parts = record { cores = core ∷ core ∷ []; parts = parts }

-- what a server of 2 slots in 4 takes of 1 to 8 slots
takes : (deferrable_demand 4 2 0 ≡ 0) × (deferrable_demand 4 2 1 ≡ 1) × (deferrable_demand 4 2 3 ≡ 2)
    × (deferrable_demand 4 2 4 ≡ 2) × (deferrable_demand 4 2 5 ≡ 3) × (deferrable_demand 4 2 6 ≡ 4)
    × (deferrable_demand 4 2 8 ≡ 4)
takes = (refl, refl, refl, refl, refl, refl, refl)

-- 2 slots in 4 and 3 in 6 fill a core. Up to its period every number of slots is too few for each.
abbrev pair : SystemView
pair = system (server (on_core 0) 4 2 false ∷ server (on_core 0) 6 3 false ∷ [])

abbrev pair_budgets : List ℕ
pair_budgets = 2 ∷ 3 ∷ []

too_few_for_the_second : count_below (λ t. nat_lt t (asked later pair pair_budgets 0 1 t)) 7 ≡ 7
unfolding sum_below
too_few_for_the_second = refl

too_few_for_the_first : count_below (λ t. nat_lt t (asked later pair pair_budgets 0 0 t)) 5 ≡ 5
unfolding sum_below
too_few_for_the_first = refl

-- with their whole budgets they take 2 + 3 slots up to where one more of the periods of the other
-- is reached: that of 4 slots at 4, and that of 6 slots one slot later than its end, for the tie
whole_budgets : (whole_asked later pair pair_budgets 0 1 3 ≡ 5) × (whole_asked later pair pair_budgets 0 1 4 ≡ 7)
    × (whole_asked later pair pair_budgets 0 0 6 ≡ 5) × (whole_asked later pair pair_budgets 0 0 7 ≡ 8)
unfolding sum_below
whole_budgets = (refl, refl, refl, refl)

-- the first starts at 0, blocks at 1 and wakes at 6, where the second starts: its budget of the
-- period that ends at 8 and that of the next, which ends with the second's first, go before the
-- second's, which gets 2 of its 3 slots
abbrev row : ℕ → ℕ → WakeKind → Wake
row at vcpu what = record { at = at; vcpu = vcpu; what = what }

abbrev wakes_late : List Wake
wakes_late = row 0 0 Start ∷ row 1 0 Block ∷ row 6 0 ToWake ∷ row 6 1 Start ∷ []

abbrev one : Option ℕ
one = Some 0

abbrev two : Option ℕ
two = Some 1

abbrev idle : Option ℕ
idle = None

abbrev short_run : List (Option ℕ)
short_run = one ∷ idle ∷ idle ∷ idle ∷ idle ∷ idle ∷ one ∷ one ∷ one ∷ one ∷ two ∷ two ∷ []

short_chosen : chosen pair pair_budgets wakes_late 0 short_run ≡ short_run
unfolding chosen choice better last_below sum_below
short_chosen = refl

short_is : CoreRun pair pair_budgets wakes_late 12 0 short_run
short_is = is_run pair pair_budgets wakes_late 0 short_run short_chosen

second_is_short : (start_of wakes_late 1 ≡ 6) × (deadline_at pair wakes_late 1 6 ≡ 12)
    × (got_in pair wakes_late short_run 1 0 ≡ 2)
unfolding last_below sum_below
second_is_short = (refl, refl, refl)

-- with that of 6 slots first in the file 5 slots are enough for it, since ties go its way, and no
-- fewer; where ties are left open no number is
abbrev other_way : SystemView
other_way = system (server (on_core 0) 6 3 false ∷ server (on_core 0) 4 2 false ∷ [])

abbrev other_budgets : List ℕ
other_budgets = 3 ∷ 2 ∷ []

by_ties : IsIsolatedBy later other_way other_budgets 0 0 5
unfolding sum_below
by_ties = record { in_period = lit≤ tt; enough = lit≤ tt }

by_no_fewer : count_below (λ t. nat_lt t (asked later other_way other_budgets 0 0 t)) 5 ≡ 5
unfolding sum_below
by_no_fewer = refl

by_ties_alone : count_below (λ t. nat_lt t (asked no_tie other_way other_budgets 0 0 t)) 7 ≡ 7
unfolding sum_below
by_ties_alone = refl

-- servers of one period that fit are isolated by it, however ties are broken; extra time does not
-- matter
abbrev equal : SystemView
equal = system (server (on_core 0) 10 3 true ∷ server (on_core 0) 10 4 false ∷ server (on_core 0) 10 3 true ∷ [])

equal_periods : IsIsolatedBy no_tie equal (3 ∷ 4 ∷ 3 ∷ []) 0 2 10
unfolding sum_below
equal_periods = record { in_period = lit≤ tt; enough = lit≤ tt }

-- beside 6 slots in 10, 4 in 10 are isolated, and 2 in 5 are not
abbrev beside_six : ℕ → ℕ → SystemView
beside_six period budget = system (server (on_core 0) period budget false ∷ server (on_core 0) 10 6 false ∷ [])

four_in_ten : IsIsolatedBy no_tie (beside_six 10 4) (4 ∷ 6 ∷ []) 0 0 10
unfolding sum_below
four_in_ten = record { in_period = lit≤ tt; enough = lit≤ tt }

two_in_five : count_below (λ t. nat_lt t (asked later (beside_six 5 2) (2 ∷ 6 ∷ []) 0 0 t)) 6 ≡ 6
unfolding sum_below
two_in_five = refl

-- parts of other cores and of parts are not asked
abbrev apart : SystemView
apart = system (server (on_core 0) 4 2 false ∷ server (on_core 1) 4 3 false ∷ server (on_part 0) 4 2 false ∷ [])

others_are_not_asked : asked later apart (2 ∷ 3 ∷ 2 ∷ []) 0 0 2 ≡ 2
unfolding sum_below
others_are_not_asked = refl

-- where ties are left open the place in the file is nothing, and the level goes before the deadline
sooner : (goes_sooner 0 5 1 0 6 0 ≡ true) × (goes_sooner 0 5 0 0 5 1 ≡ false) × (goes_sooner 0 9 1 1 5 0 ≡ true)
    × (goes_sooner 1 5 0 0 9 1 ≡ false)
sooner = (refl, refl, refl, refl)

-- two of one period that start at once may each go first where ties are left open, and only the
-- first in the file where they are not
abbrev equal_budgets : List ℕ
equal_budgets = 3 ∷ 4 ∷ 3 ∷ []

abbrev start_at_once : List Wake
start_at_once = row 0 0 Start ∷ row 0 1 Start ∷ []

abbrev second_first : List (Option ℕ)
second_first = two ∷ []

is_one : (v : ℕ) → two ≡ Some v → 1 ≡ v
is_one v e = cc

not_before_the_second : (u : ℕ) → is_eligible equal equal_budgets start_at_once 0 second_first u 0 ≡ true
    → goes_sooner (level_at equal equal_budgets start_at_once second_first u 0) (deadline_at equal start_at_once u 0) u
    (level_at equal equal_budgets start_at_once second_first 1 0) (deadline_at equal start_at_once 1 0) 1 ≡ false
unfolding last_below sum_below
not_before_the_second zero e = refl
not_before_the_second (suc zero) e = refl
not_before_the_second (suc (suc zero)) e = refl
not_before_the_second (suc (suc (suc u))) e =
    absurd (omega (arith, ltb-true (suc (suc (suc u))) 3 (and_parts _ _ (and_parts _ _ (and_parts _ _ e).0).0).0))

the_second_is_eligible : is_eligible equal equal_budgets start_at_once 0 second_first 1 0 ≡ true
unfolding last_below sum_below
the_second_is_eligible = refl

a_tie_may_go_to_the_later : OpenRun equal equal_budgets start_at_once 1 0 second_first
a_tie_may_go_to_the_later = record { long = refl; each = at }
  where
    at : (x : ℕ) → x < 1 → OpenEntry equal equal_budgets start_at_once 0 second_first x (held second_first x)
    at zero l = record {
      idle = λ e v. cc;
      named =
          λ v e. subst (λ (z : ℕ). is_eligible equal equal_budgets start_at_once 0 second_first z 0 ≡ true) (is_one v e)
          the_second_is_eligible;
      first =
          λ u v e eligible. subst (λ (z : ℕ). goes_sooner
          (level_at equal equal_budgets start_at_once second_first u 0) (deadline_at equal start_at_once u 0) u
          (level_at equal equal_budgets start_at_once second_first z 0) (deadline_at equal start_at_once z 0) z ≡ false)
          (is_one v e) (not_before_the_second u eligible);
    }
    at (suc x) l = absurd (omega (arith, l))

-- the third starts at 0, blocks at 1 and wakes at 7, so it is awake in the last 3 slots of its
-- period, which ends with the run
abbrev wakes_at_seven : List Wake
wakes_at_seven = row 0 2 Start ∷ row 1 2 Block ∷ row 7 2 ToWake ∷ []

awake_from_seven : (x : ℕ) → 7 ≤ x → is_blocked_at wakes_at_seven 2 x ≡ false
unfolding last_below
awake_from_seven x l = grind (arith, nat_tests, l)

its_start : start_of wakes_at_seven 2 ≡ 0
unfolding last_below
its_start = refl

awake_in_its_last_slots : IsAwakeLast equal wakes_at_seven 10 0 2 0 3
unfolding last_below
awake_in_its_last_slots = record {
  starts = record { is_part = lit< tt; on_core = refl; started = refl };
  in_run = lit≤ tt;
  awake = λ x l m. awake_from_seven x (omega (arith, l));
}

-- the same in a trace, whose moments are nanoseconds
abbrev event : ℕ → What → Event
event at what = record { at = at; core = 0; what = what }

abbrev trace_to_ten : List Event
trace_to_ten = event 0 (Starts 2) ∷ event 1000 (Blocks 2) ∷ event 7000 (Wakes 2) ∷ event 10000 End ∷ []

awake_from_seven_thousand : (x : ℕ) → 7000 ≤ x → blocked trace_to_ten 2 x ≡ false
unfolding last_below
awake_from_seven_thousand x l = grind (arith, nat_tests, l)

awake_in_its_last_moments : IsAwakeInTrace equal trace_to_ten 2 0 0 3
unfolding last_below
awake_in_its_last_moments = record {
  started = refl;
  in_trace = lit≤ tt;
  awake = λ x l m. awake_from_seven_thousand x (omega (arith, l));
}

-- a run of one slot, and one of as many as `rtds` takes
the_shortest_and_the_longest_run : IsRunLength 1 × IsRunLength 1000000
the_shortest_and_the_longest_run = ((lit≤ tt, lit≤ tt), (lit≤ tt, lit≤ tt))

-- what is kept, taken apart: no more is asked of a workload, a run and a period than this
what_is_kept : (sys : SystemView) (budgets : List ℕ) (c v t : ℕ) → KeepsBudget sys budgets c v t
    → (rows : List Wake) (n : ℕ) (run : List (Option ℕ)) (k : ℕ) → IsWorkload sys rows
    → CoreRun sys budgets rows n c run → IsAwakeLast sys rows n c v k t
    → budget_at budgets v ≤ got_in sys rows run v k
what_is_kept sys budgets c v t keeps = keeps

what_is_kept_openly : (sys : SystemView) (budgets : List ℕ) (c v t : ℕ) → KeepsOpenly sys budgets c v t
    → (rows : List Wake) (n : ℕ) (run : List (Option ℕ)) (k : ℕ) → IsWorkload sys rows
    → OpenRun sys budgets rows n c run → IsAwakeLast sys rows n c v k t
    → budget_at budgets v ≤ got_in sys rows run v k
what_is_kept_openly sys budgets c v t keeps = keeps

what_is_kept_in_traces : (sys : SystemView) (budgets : List ℕ) (v t : ℕ) → KeepsInTrace sys budgets v t
    → (rows : List Wake) (slots : ℕ) (events : List Event) (f k : ℕ) → IsWorkload sys rows → IsRunLength slots
    → IsRtdsTrace sys budgets rows slots events → IsAwakeInTrace sys events v f k t
    → budget_of budgets v ≤ got_in_trace sys events v f k
what_is_kept_in_traces sys budgets v t keeps = keeps

-- and what is lost: in each run over so many slots, of which there is one, a period of the VCPU in
-- which it never blocks has fewer slots than its budget
what_is_lost : (sys : SystemView) (budgets : List ℕ) (c v most : ℕ) → IsBreakable sys budgets c v most
    → (rows : List Wake) × (slots : ℕ) × (k : ℕ) × IsWorkload sys rows × (slots ≤ most)
    × IsAwakeLast sys rows slots c v k (part_at sys v).period
    × ((run : List (Option ℕ)) × CoreRun sys budgets rows slots c run)
    × ((run : List (Option ℕ)) → CoreRun sys budgets rows slots c run
    → got_in sys rows run v k < budget_at budgets v)
what_is_lost sys budgets c v most b =
    (b.rows, b.slots, b.number, b.is_workload, b.few_slots, b.awake, b.some_run, b.short)

-- where it is: no more is asked of the core and of the longest period than this
who_loses : (sys : SystemView) (budgets : List ℕ) (c v : ℕ) → IsExposed sys budgets c v
    → (longest : ℕ) → ServersFit sys budgets c
    → ((u : ℕ) → u < length sys.parts → is_child sys (Core c) u ≡ true → (part_at sys u).period ≤ longest)
    → 2 * longest ≤ 1000000000 → IsBreakable sys budgets c v (3 * longest)
who_loses sys budgets c v exposed = exposed

who_loses_in_traces : (sys : SystemView) (budgets : List ℕ) (c v : ℕ) → IsExposedInTrace sys budgets c v
    → (longest : ℕ)
    → ((u : ℕ) → u < length sys.parts → is_child sys (Core c) u ≡ true → (part_at sys u).period ≤ longest)
    → 3 * longest ≤ 1000000
    → (rows : List Wake) × (slots : ℕ) × (k : ℕ) × IsWorkload sys rows × IsRunLength slots
    × ((events : List Event) × IsRtdsTrace sys budgets rows slots events)
    × ((events : List Event) → IsRtdsTrace sys budgets rows slots events → (f : ℕ) × IsShort sys budgets events v f k)
who_loses_in_traces sys budgets c v exposed longest up_to room =
    let b : CanBeShort sys budgets v = exposed longest up_to room in
    (b.rows, b.slots, b.number, b.is_workload, b.run_length, b.some_trace, b.short)

-- each part on a core has an answer, in file order and on its own core, and a part of a part none
abbrev spread : SystemView
spread = system (server (on_core 1) 4 2 false ∷ server (on_part 0) 4 2 false ∷ server (on_core 0) 4 3 false ∷ [])

who_is_answered : vcpus_of spread ≡ 0 ∷ 2 ∷ []
who_is_answered = refl

on_its_own_core : (own_core spread 0 ≡ 1) × (own_core spread 2 ≡ 0)
on_its_own_core = (refl, refl)

-- who is isolated by ties alone is not isolated however they are broken; of no parts each is
abbrev keeps : ℕ → Isolation → PartIsolation
keeps part isolation = record { part = part; isolation = isolation }

whether_each_is_isolated :
    (are_isolated (keeps 0 (Isolated 3) ∷ keeps 2 (Isolated 4) ∷ []) ≡ true)
    × (are_isolated (keeps 0 (Isolated 3) ∷ keeps 2 (ByTies 4) ∷ []) ≡ false)
    × (are_isolated (keeps 0 ByBlock ∷ keeps 2 (Isolated 4) ∷ []) ≡ false) × (are_isolated [] ≡ true)
whether_each_is_isolated = (refl, refl, refl, refl)

-- of core 1 a part of 3 slots in 8 and one of 2 in 6, and of core 0 one of 1 in 9; the part of a
-- part and core 2, on which nothing stands, are not told
abbrev three_cores : SystemView
three_cores = record {
  cores = core ∷ core ∷ core ∷ [];
  parts =
      server (on_core 1) 8 3 false ∷ server (on_part 0) 4 1 false ∷ server (on_core 0) 9 1 false
      ∷ server (on_core 1) 6 2 false ∷ [];
}

abbrev told : ℕ → ℕ → ℕ → CoreBudgets
told core budgets shortest = record { core = core; budgets = budgets; shortest = shortest }

abbrev three_budgets : List ℕ
three_budgets = 3 ∷ 1 ∷ 1 ∷ 2 ∷ []

which_cores : (used_cores three_cores ≡ 0 ∷ 1 ∷ []) × (has_part three_cores 2 ≡ false)
unfolding sum_below
which_cores = (refl, refl)

their_sums : (budgets_on three_cores three_budgets 0 ≡ 1) × (budgets_on three_cores three_budgets 1 ≡ 5)
unfolding sum_below
their_sums = (refl, refl)

shortest_of_one : IsShortest three_cores 0 9
shortest_of_one = record {
  part = 2;
  is_part = lit< tt;
  on_core = refl;
  has_it = refl;
  least = λ v l on. below v l on;
}
  where
    below : (v : ℕ) → v < 4 → is_child three_cores (Core 0) v ≡ true → 9 ≤ (part_at three_cores v).period
    below zero l on = cc
    below (suc zero) l on = cc
    below (suc (suc zero)) l on = lit≤ tt
    below (suc (suc (suc zero))) l on = cc
    below (suc (suc (suc (suc v)))) l on = absurd (omega (arith, l))

shortest_of_two : IsShortest three_cores 1 6
shortest_of_two = record {
  part = 3;
  is_part = lit< tt;
  on_core = refl;
  has_it = refl;
  least = λ v l on. below v l on;
}
  where
    below : (v : ℕ) → v < 4 → is_child three_cores (Core 1) v ≡ true → 6 ≤ (part_at three_cores v).period
    below zero l on = lit≤ tt
    below (suc zero) l on = cc
    below (suc (suc zero)) l on = cc
    below (suc (suc (suc zero))) l on = lit≤ tt
    below (suc (suc (suc (suc v)))) l on = absurd (omega (arith, l))

what_is_told : AreCoreBudgets three_cores three_budgets (told 0 1 9 ∷ told 1 5 6 ∷ [])
what_is_told = record { places_are = sym which_cores.0; each = at }
  where
    at : All (IsCoreBudgets three_cores three_budgets) (told 0 1 9 ∷ told 1 5 6 ∷ [])
    at zero d l = record { sum_is = sym their_sums.0; shortest_is = shortest_of_one }
    at (suc zero) d l = record { sum_is = sym their_sums.1; shortest_is = shortest_of_two }
    at (suc (suc k)) d l = absurd (omega (arith, l))

-- and nothing else is told of them
nothing_else : (rows : List CoreBudgets) → AreCoreBudgets three_cores three_budgets rows
    → rows ≡ told 0 1 9 ∷ told 1 5 6 ∷ []
nothing_else rows is = one_list_of_budgets three_cores three_budgets rows _ is what_is_told

-- 5 slots fit in periods of 8 and 6, so each on core 1 is isolated by 5
each_of_two_fits : FitsShortest three_cores three_budgets 1
each_of_two_fits =
    (fits_shortest three_cores three_budgets (told 1 5 6)
    (record { sum_is = sym their_sums.1; shortest_is = shortest_of_two })).0 (lit≤ tt)

by_five : IsIsolatedBy no_tie three_cores three_budgets 1 3 5
unfolding sum_below
by_five = record { in_period = lit≤ tt; enough = lit≤ tt }
