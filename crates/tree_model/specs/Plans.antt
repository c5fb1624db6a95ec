-- Budgets for a system.
use Rattle.std.specs.Prelude.{◌≡◌, ℕ, ◌<◌, ◌≤◌, List, length}
use Rattle.tree_model.specs.View.{SystemView}
use Rattle.tree_model.specs.System.{part_at}
use Rattle.tree_model.specs.Tree.{budget_at}

-- one budget a part, each from 1 to the part's period
pub record IsPlan (sys : SystemView) (budgets : List ℕ) : Type 0 where
  pub one_each : length budgets ≡ length sys.parts
  pub some_budget : (q : ℕ) → q < length sys.parts → 1 ≤ budget_at budgets q
  pub in_period : (q : ℕ) → q < length sys.parts
      → budget_at budgets q ≤ (part_at sys q).period
