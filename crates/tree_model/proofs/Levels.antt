-- The level of a node: what is so of the scheduler, the tasks, the supply bound and the cycle that
-- are read for it is so of its own, and its numbers are in range.
use Rattle.std.proofs.Common.{◌≡◌, ℕ, ◌<◌, ◌≤◌, List, length, Option, Some, None, arith, subst}
use Rattle.slot_model.specs.declared.sched.Sched.{Sched}
use Rattle.slot_model.specs.declared.task.TheConstants.{LIMIT}
use Rattle.slot_model.specs.Task.{SporadicTask}
use Rattle.tree_model.specs.declared.place.Place.{Place}
use Rattle.tree_model.specs.declared.place.Place.TheVariants.{Core, Part}
use Rattle.tree_model.specs.View.{SystemView}
use Rattle.tree_model.specs.System.{core_at, IsCoreSupply, IsSystem}
use Rattle.tree_model.specs.Tree.{core_cycle, core_budget, IsNode, node_cycle}
use Rattle.tree_model.specs.NodeSupply.{node_budget, BudgetFits}
use Rattle.tree_model.proofs.InRange.{InPeriod}

pub of_level : (P : Sched → List SporadicTask → (ℕ → ℕ) → ℕ → Type 0) {s t : Sched} {T U : List SporadicTask}
    {f g : ℕ → ℕ} {m n : ℕ} → s ≡ t → T ≡ U → f ≡ g → m ≡ n → P s T f m → P t U g n
of_level P {s = s} {t = t} {T = T} {U = U} {f = f} {g = g} {m = m} {n = n} sched tasks bound cycle h =
    subst (λ (z : Sched). P z U g n) sched
    (subst (λ (z : List SporadicTask). P s z g n) tasks
    (subst (λ (z : ℕ → ℕ). P s T z n) bound (subst (λ (z : ℕ). P s T f z) cycle h)))

-- the period of a supply, and its budget under budgets that lie within their periods
pub cycle_range : (sys : SystemView) → IsSystem sys → (node : Place) → IsNode sys node
    → (1 ≤ node_cycle sys node) × (node_cycle sys node ≤ LIMIT)
cycle_range sys is (Part q) h = (is.parts q h).period
cycle_range sys is (Core c) h = go (core_at sys c).supply (is.supplies c h)
  where
    go : (supply : Option (ℕ × ℕ)) → IsCoreSupply supply → (1 ≤ core_cycle supply) × (core_cycle supply ≤ LIMIT)
    go None u = (omega arith, omega arith)
    go (Some s) range = range.0

pub budget_range : (sys : SystemView) → IsSystem sys → (budgets : List ℕ)
    → ((q : ℕ) → q < length sys.parts → InPeriod sys budgets q) → (node : Place) → IsNode sys node
    → (1 ≤ node_budget sys budgets node) × (node_budget sys budgets node ≤ node_cycle sys node)
budget_range sys is budgets fit (Part q) h = fit q h
budget_range sys is budgets fit (Core c) h = go (core_at sys c).supply (is.supplies c h)
  where
    go : (supply : Option (ℕ × ℕ)) → IsCoreSupply supply
        → (1 ≤ core_budget supply) × (core_budget supply ≤ core_cycle supply)
    go None u = (omega arith, omega arith)
    go (Some s) range = (range.1, range.2)

pub budget_fits : (sys : SystemView) (budgets : List ℕ)
    → ((q : ℕ) → q < length sys.parts → InPeriod sys budgets q) → (node : Place) → IsNode sys node
    → BudgetFits sys budgets node
budget_fits sys budgets fit (Part q) h = (fit q h).1
budget_fits sys budgets fit (Core c) h = tt
