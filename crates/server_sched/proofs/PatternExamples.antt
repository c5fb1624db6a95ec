-- Worked patterns of a supply: a budget of 2 slots in every 5, in its first three periods.
use Rattle.std.proofs.Common.{◌≡◌, ℕ, true, false, Option, Some, None, [], ◌∷◌, refl}
use Rattle.tree_model.specs.declared.pinned_core.Core.{Core}
use Rattle.slot_model.specs.declared.sched.Sched.TheVariants.{Edf}
use Rattle.tree_model.specs.View.{SystemView}
use Rattle.server_sched.specs.declared.supplies.Pattern.TheVariants.{Early, Late, Worst}
use Rattle.server_sched.specs.Patterns.{pattern_slots, pattern_supplies}

abbrev two_in_five : Option (ℕ × ℕ)
two_in_five = Some (5, 2)

-- the budget at the begin of each period
early_slots : pattern_slots Early two_in_five 15
    ≡ true ∷ true ∷ false ∷ false ∷ false ∷ true ∷ true ∷ false ∷ false ∷ false
    ∷ true ∷ true ∷ false ∷ false ∷ false ∷ []
early_slots = refl

-- and at its end
late_slots : pattern_slots Late two_in_five 15
    ≡ false ∷ false ∷ false ∷ true ∷ true ∷ false ∷ false ∷ false ∷ true ∷ true
    ∷ false ∷ false ∷ false ∷ true ∷ true ∷ []
late_slots = refl

-- the worst is early in the first period and late in each one behind it
worst_slots : pattern_slots Worst two_in_five 15
    ≡ true ∷ true ∷ false ∷ false ∷ false ∷ false ∷ false ∷ false ∷ true ∷ true
    ∷ false ∷ false ∷ false ∷ true ∷ true ∷ []
worst_slots = refl

-- a budget of the whole period is each slot, whatever the pattern
whole_periods : (pattern_slots Early (Some (2, 2)) 3 ≡ true ∷ true ∷ true ∷ [])
    × (pattern_slots Late (Some (2, 2)) 3 ≡ true ∷ true ∷ true ∷ [])
    × (pattern_slots Worst (Some (2, 2)) 3 ≡ true ∷ true ∷ true ∷ [])
whole_periods = (refl, refl, refl)

-- as is what a core without a supply has
full_core : (pattern_slots Early None 3 ≡ true ∷ true ∷ true ∷ [])
    × (pattern_slots Late None 3 ≡ true ∷ true ∷ true ∷ [])
    × (pattern_slots Worst None 3 ≡ true ∷ true ∷ true ∷ [])
full_core = (refl, refl, refl)

-- each core has its own supply's
abbrev core : Option (ℕ × ℕ) → Core
core supply = record { name = 99 ∷ []; sched = Edf; supply = supply }

abbrev two_cores : SystemView
two_cores = record { cores = core two_in_five ∷ core None ∷ []; parts = [] }

each_core : pattern_supplies two_cores Late 4
    ≡ (false ∷ false ∷ false ∷ true ∷ []) ∷ (true ∷ true ∷ true ∷ true ∷ []) ∷ []
each_core = refl
