-- Worked runs: A and B, both with extra time and a budget of 1 slot in every 10, on one full core,
-- and on one each.
use Rattle.std.proofs.Common.{◌≡◌, ℕ, true, false, Option, None, List, [], ◌∷◌, refl}
use Rattle.csv_rows.specs.Last.{last_below}
use Rattle.slot_model.specs.Slots.{sum_below}
use Rattle.tree_model.specs.declared.place.Parent.TheVariants.{Core as on_core}
use Rattle.tree_model.specs.View.{SystemView}
use Rattle.release_file.specs.declared.workload.Wake.{Wake}
use Rattle.release_file.specs.declared.workload.WakeKind.TheVariants.{Start, Block}
use Rattle.rtds_model.specs.Rtds.{CoreRun, level_at, goes_before}
use Rattle.rtds_model.proofs.Runs.{better, choice, chosen, is_run}
use Rattle.rtds_model.proofs.Examples.{server, core, row, both_start, A, B}

abbrev both_extra : SystemView
both_extra = record { cores = core ∷ []; parts = server 65 1 true ∷ server 66 1 true ∷ [] }

abbrev ones : List ℕ
ones = 1 ∷ 1 ∷ []

-- each slot is a budget more, so they take turns, also in the second period
abbrev turns : List (Option ℕ)
turns = A ∷ B ∷ A ∷ B ∷ A ∷ B ∷ A ∷ B ∷ A ∷ B ∷ A ∷ B ∷ []

turns_chosen : chosen both_extra ones both_start 0 turns ≡ turns
unfolding chosen choice better last_below sum_below
turns_chosen = refl

turns_are : CoreRun both_extra ones both_start 12 0 turns
turns_are = is_run both_extra ones both_start 0 turns turns_chosen

-- a level for each budget, and none at the begin of a period
levels_of_turns : (level_at both_extra ones both_start turns 0 0 ≡ 0)
    × (level_at both_extra ones both_start turns 0 2 ≡ 1)
    × (level_at both_extra ones both_start turns 0 4 ≡ 2)
    × (level_at both_extra ones both_start turns 1 4 ≡ 2)
    × (level_at both_extra ones both_start turns 0 5 ≡ 3)
    × (level_at both_extra ones both_start turns 0 10 ≡ 0)
unfolding last_below sum_below
levels_of_turns = (refl, refl, refl, refl, refl, refl)

-- of two levels above 1 the least goes first
least_goes_first : (goes_before both_extra ones both_start turns 5 1 0 ≡ true)
    × (goes_before both_extra ones both_start turns 5 0 1 ≡ false)
unfolding last_below sum_below
least_goes_first = (refl, refl)

-- B starts at 3, so its deadline is later. It catches up with A's three budgets, and of one level A
-- goes first. The period of A ends at 10 and that of B at 13, which begins at level 0 again.
abbrev b_starts_later : List Wake
b_starts_later = row 0 0 Start ∷ row 3 1 Start ∷ []

abbrev b_catches_up : List (Option ℕ)
b_catches_up = A ∷ A ∷ A ∷ B ∷ B ∷ B ∷ A ∷ B ∷ A ∷ B ∷ A ∷ A ∷ A ∷ B ∷ []

b_catches_up_chosen : chosen both_extra ones b_starts_later 0 b_catches_up ≡ b_catches_up
unfolding chosen choice better last_below sum_below
b_catches_up_chosen = refl

-- A starts at 3, so of one level B goes first, though A is first in the file
abbrev a_starts_later : List Wake
a_starts_later = row 0 1 Start ∷ row 3 0 Start ∷ []

abbrev a_catches_up : List (Option ℕ)
a_catches_up = B ∷ B ∷ B ∷ A ∷ A ∷ A ∷ B ∷ A ∷ B ∷ A ∷ []

a_catches_up_chosen : chosen both_extra ones a_starts_later 0 a_catches_up ≡ a_catches_up
unfolding chosen choice better last_below sum_below
a_catches_up_chosen = refl

-- A on core 0 and B on core 1, where each has what it has alone
abbrev pub core_each : SystemView
core_each =
    record {
      cores = core ∷ core ∷ [];
      parts = server 65 1 true ∷ record (server 66 1 true) { parent = on_core 1 } ∷ [];
    }

abbrev pub b_before_a : List Wake
b_before_a = row 0 1 Start ∷ row 0 0 Start ∷ row 2 1 Block ∷ row 2 0 Block ∷ []

abbrev pub a_twice : List (Option ℕ)
a_twice = A ∷ A ∷ None ∷ []

abbrev pub b_twice : List (Option ℕ)
b_twice = B ∷ B ∷ None ∷ []

each_core_chosen : (chosen core_each ones b_before_a 0 a_twice ≡ a_twice)
    × (chosen core_each ones b_before_a 1 b_twice ≡ b_twice)
unfolding chosen choice better last_below sum_below
each_core_chosen = (refl, refl)
