-- The supply of a node, by its two cases: every slot, or a budget in every period.
use Rattle.std.specs.Prelude.{ℕ, Bool, true, List, Option, Some, None}
use Rattle.slot_model.specs.Supply.{IsFull, GivesBudget, worst_slot, SupplyLaws}
use Rattle.slot_model.specs.Bound.{sbf}
use Rattle.slot_model.proofs.FullSupply.{full_laws}
use Rattle.slot_model.proofs.WorstPattern.{periodic_laws}
use Rattle.supply_bound.specs.declared.node_supply.NodeSupply.{NodeSupply}
use Rattle.supply_bound.specs.declared.node_supply.NodeSupply.TheVariants.{Full, Periodic}

-- the period and the budget; none where every slot is given
abbrev pub numbers_of : NodeSupply → Option (ℕ × ℕ)
numbers_of Full = None
numbers_of (Periodic s) = Some (s.period, s.budget)

abbrev pub bound_of : NodeSupply → ℕ → ℕ
bound_of Full t = t
bound_of (Periodic s) t = sbf s.period s.budget t

abbrev pub amount_of : NodeSupply → ℕ
amount_of Full = 1
amount_of (Periodic s) = s.budget

abbrev pub cycle_of : NodeSupply → ℕ
cycle_of Full = 1
cycle_of (Periodic s) = s.period

abbrev pub pattern_of : NodeSupply → ℕ → Bool
pattern_of Full x = true
pattern_of (Periodic s) x = worst_slot s.period s.budget x

abbrev pub start_of : NodeSupply → ℕ
start_of Full = 0
start_of (Periodic s) = s.budget

abbrev pub Conforms : NodeSupply → List Bool → Type 0
Conforms Full slots = IsFull slots
Conforms (Periodic s) slots = GivesBudget s.period s.budget slots

-- it keeps what a supply keeps
pub node_laws : (s : NodeSupply) →
    SupplyLaws (bound_of s) (amount_of s) (cycle_of s) (pattern_of s) (start_of s) (Conforms s)
node_laws Full = full_laws
node_laws (Periodic s) = periodic_laws s.period s.budget s.some_period s.in_period
