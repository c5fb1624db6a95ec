-- What RTDS gives and never gives, over the host of the worked runs. A definition that says less
-- breaks one of these.
use Rattle.std.proofs.Common.{◌≡◌, ℕ, zero, suc, ◌<◌, ◌≤◌, Bool, true, false, ◌&&◌, Option, Some, None, if◌then◌else◌, List, [], ◌∷◌, length, refl, arith, lit<, lit≤}
use Rattle.csv_rows.specs.Last.{last_below}
use Rattle.slot_model.specs.Slots.{sum_below}
use Rattle.tree_model.specs.declared.place.Place.TheVariants.{Core as on_core_place}
use Rattle.tree_model.specs.View.{SystemView}
use Rattle.tree_model.specs.Tree.{is_child}
use Rattle.trace_file.specs.declared.event.Event.{Event}
use Rattle.trace_file.specs.Periods.{IsOver}
use Rattle.release_file.specs.declared.workload.Wake.{Wake}
use Rattle.release_file.specs.declared.workload.WakeKind.TheVariants.{Start, Block}
use Rattle.release_file.specs.Workload.{is_of, is_by, blocks}
use Rattle.slot_model.specs.Run.{held, holds}
use Rattle.rtds_model.specs.Giving.{slots_got, IsStartedOn, AlwaysRunnable, ServersFit, AlwaysServed, GivesBudgets, NeverOver, NoneOver}
use Rattle.rtds_model.proofs.Examples.{host, budgets, row, both_start, B}

-- B has no extra time and a budget of 4 slots in 10
abbrev five_of_b : List (Option ℕ)
five_of_b = B ∷ B ∷ B ∷ B ∷ B ∷ []

five_slots_of_four_are_over : NeverOver (host false) budgets both_start five_of_b → ⊥
unfolding sum_below last_below
five_slots_of_four_are_over never = let few : 5 ≤ 4 = never 1 0 (lit< tt) refl in omega arith

-- also in the second period
so_they_are_in_the_second_period : NeverOver (host false) budgets both_start
    (None ∷ None ∷ None ∷ None ∷ None ∷ None ∷ None ∷ None ∷ None ∷ None ∷ five_of_b) → ⊥
unfolding sum_below last_below
so_they_are_in_the_second_period never = let few : 5 ≤ 4 = never 1 1 (lit< tt) refl in omega arith

-- the slots of a period are those of no other
abbrev two_of_b_and_five : List (Option ℕ)
two_of_b_and_five = B ∷ B ∷ None ∷ None ∷ None ∷ None ∷ None ∷ None ∷ None ∷ None ∷ five_of_b

slots_of_each_period : (slots_got (λ x. holds (held two_of_b_and_five x) 1) 10 0 0 ≡ 2)
    × (slots_got (λ x. holds (held two_of_b_and_five x) 1) 10 0 1 ≡ 5)
    × (slots_got (λ x. holds (held two_of_b_and_five x) 1) 10 1 0 ≡ 2)
unfolding sum_below
slots_of_each_period = (refl, refl, refl)

-- A starts on the core, which gives it none of its 3 slots in ten
a_starts_there : IsStartedOn (host false) both_start 0 0
unfolding last_below
a_starts_there = record { is_part = lit< tt; on_core = refl; started = refl }

no_slot_does_not_give_the_budgets : GivesBudgets (host false) budgets both_start 10 0 [] → ⊥
unfolding sum_below last_below
no_slot_does_not_give_the_budgets gives = let some : 3 ≤ 0 = gives 0 0 a_starts_there (lit≤ tt) in omega arith

-- A and B start and never block, both at one slot or each at one of its own
abbrev two_slots : List Wake
two_slots = row 1 0 Start ∷ row 4 1 Start ∷ []

-- one of two rows that are no blocks is none
no_block : (a b : Bool) → blocks (if b then Some (row 4 1 Start) else if a then Some (row 1 0 Start) else None) ≡ false
no_block a true = refl
no_block true false = refl
no_block false false = refl

no_block_at_one_slot : (a b : Bool)
    → blocks (if b then Some (row 0 1 Start) else if a then Some (row 0 0 Start) else None) ≡ false
no_block_at_one_slot a true = refl
no_block_at_one_slot true false = refl
no_block_at_one_slot false false = refl

starts_at_one_slot_are_runnable : AlwaysRunnable (host false) both_start 0
unfolding last_below
starts_at_one_slot_are_runnable = record {
  awake = λ v x started.
      no_block_at_one_slot (is_by x (row 0 0 Start) && is_of v (row 0 0 Start))
      (is_by x (row 0 1 Start) && is_of v (row 0 1 Start));
}

starts_at_two_slots_are_runnable : AlwaysRunnable (host false) two_slots 0
unfolding last_below
starts_at_two_slots_are_runnable = record {
  awake = λ v x started.
      no_block (is_by x (row 1 0 Start) && is_of v (row 1 0 Start))
      (is_by x (row 4 1 Start) && is_of v (row 4 1 Start));
}

-- one that blocks later is not runnable
one_that_blocks_is_not : AlwaysRunnable (host false) (row 0 0 Start ∷ row 5 0 Block ∷ []) 0 → ⊥
unfolding last_below
one_that_blocks_is_not runnable =
    let awake : true ≡ false = runnable.awake 0 7 (record { is_part = lit< tt; on_core = refl; started = refl }) in cc

-- on another core it does not count
of_another_core_it_is : AlwaysRunnable (host false) (row 0 0 Start ∷ row 5 0 Block ∷ []) 1
of_another_core_it_is = record { awake = λ v x started. absurd (no_child v started.is_part started.on_core) }
  where
    no_child : (v : ℕ) → v < 2 → is_child (host false) (on_core_place 1) v ≡ true → ⊥
    no_child zero l h = let same : false ≡ true = h in cc
    no_child (suc zero) l h = let same : false ≡ true = h in cc
    no_child (suc (suc v)) l h = absurd (omega arith)

-- all that is to be served, on each core
always_served : (sys : SystemView) (budgets : List ℕ) (rows : List Wake)
    → ((c : ℕ) → c < length sys.cores → AlwaysRunnable sys rows c)
    → ((c : ℕ) → c < length sys.cores → ServersFit sys budgets c) → AlwaysServed sys budgets rows
always_served sys budgets rows runnable fit = record { runnable = runnable; fit = fit }

no_period_is_over : (sys : SystemView) (budgets : List ℕ) (events : List Event) (v f k : ℕ)
    → NoneOver sys budgets events → IsOver sys budgets events v f k → ⊥
no_period_is_over sys budgets events v f k none = none v f k
