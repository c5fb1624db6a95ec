-- What the steps of a check know of the system and answer for the nodes.
use Rattle.std.specs.Prelude.{ℕ, ◌<◌, ◌≤◌, List, length}
use Rattle.tree_model.specs.CertificateView.{NodeView}
use Rattle.tree_model.specs.View.{SystemView}
use Rattle.tree_model.specs.System.{part_at}
use Rattle.tree_model.specs.Tree.{budget_at}
use Rattle.cert_verify.specs.Proves.{node_at, HasBudget, NodeProves}

-- each part's budget is 1 to its period
abbrev pub BudgetsFit : SystemView → List ℕ → Type 0
BudgetsFit sys budgets =
    (q : ℕ) → q < length sys.parts →
    (1 ≤ budget_at budgets q) × (budget_at budgets q ≤ (part_at sys q).period)

-- what is so of the first n nodes
abbrev pub HaveBudgets : SystemView → List NodeView → ℕ → Type 0
HaveBudgets sys nodes n = (k : ℕ) → k < n → HasBudget sys (node_at nodes k)

abbrev pub AreProved : SystemView → List ℕ → List NodeView → ℕ → Type 0
AreProved sys budgets nodes n = (k : ℕ) → k < n → NodeProves sys budgets (node_at nodes k)
