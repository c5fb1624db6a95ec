-- The patterns of a core's supply: which slots it has, slot by slot.
use Rattle.std.specs.Prelude.{ℕ, ◌-◌, ◌%◌, nat_le, nat_lt, Bool, true, List, map, Option, Some, None}
use Rattle.std.specs.List.{range_with_len}
use Rattle.slot_model.specs.Supply.{worst_slot}
use Rattle.tree_model.specs.declared.pinned_core.Core.{Core}
use Rattle.tree_model.specs.View.{SystemView}
use Rattle.server_sched.specs.declared.supplies.Pattern.{Pattern}
use Rattle.server_sched.specs.declared.supplies.Pattern.TheVariants.{Early, Late, Worst}

-- the budget at the begin, and at the end, of each period
abbrev pub early_slot : ℕ → ℕ → ℕ → Bool
early_slot period budget x = nat_lt (x % period) budget

abbrev pub late_slot : ℕ → ℕ → ℕ → Bool
late_slot period budget x = nat_le (period - budget) (x % period)

-- whether slot x is given: of a full core every slot
abbrev pub pattern_slot : Pattern → Option (ℕ × ℕ) → ℕ → Bool
pattern_slot pattern None x = true
pattern_slot Early (Some supply) x = early_slot supply.0 supply.1 x
pattern_slot Late (Some supply) x = late_slot supply.0 supply.1 x
pattern_slot Worst (Some supply) x = worst_slot supply.0 supply.1 x

-- the n slots of a core's supply, and of each core's
abbrev pub pattern_slots : Pattern → Option (ℕ × ℕ) → ℕ → List Bool
pattern_slots pattern supply n = map (pattern_slot pattern supply) (range_with_len 0 n)

abbrev pub pattern_supplies : SystemView → Pattern → ℕ → List (List Bool)
pattern_supplies sys pattern n =
    map (λ (core : Core). pattern_slots pattern core.supply n) sys.cores
