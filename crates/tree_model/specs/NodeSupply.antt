-- The supply of a node by its numbers.
use Rattle.std.specs.Prelude.{ℕ, ◌≤◌, List, Option, Some}
use Rattle.tree_model.specs.declared.place.Place.{Place}
use Rattle.tree_model.specs.declared.place.Place.TheVariants.{Core, Part}
use Rattle.tree_model.specs.View.{SystemView}
use Rattle.tree_model.specs.System.{core_at, part_at}
use Rattle.tree_model.specs.Tree.{core_budget, budget_at}

-- the period and the budget: a core's own, none of a full core, and those of a part's server under
-- these budgets
abbrev pub node_numbers : SystemView → List ℕ → Place → Option (ℕ × ℕ)
node_numbers sys budgets (Core c) = (core_at sys c).supply
node_numbers sys budgets (Part q) = Some ((part_at sys q).period, budget_at budgets q)

-- the slots of each cycle of the supply: 1 of every slot at a full core
abbrev pub node_budget : SystemView → List ℕ → Place → ℕ
node_budget sys budgets (Core c) = core_budget (core_at sys c).supply
node_budget sys budgets (Part q) = budget_at budgets q

-- the budget of a part lies within its period
abbrev pub BudgetFits : SystemView → List ℕ → Place → Type 0
BudgetFits sys budgets (Core c) = Unit {0}
BudgetFits sys budgets (Part q) = budget_at budgets q ≤ (part_at sys q).period
