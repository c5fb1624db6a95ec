-- What is known of a system that was admitted before one of its nodes was edited: every other
-- node passes under the budgets that it had, but for those above the edited one.
use Rattle.std.specs.Prelude.{◌≡◌, ℕ, ◌<◌, true, List, length}
use Rattle.tree_model.specs.declared.place.Place.{Place}
use Rattle.tree_model.specs.declared.place.Place.TheVariants.{Core, Part}
use Rattle.tree_model.specs.View.{SystemView}
use Rattle.tree_model.specs.System.{part_at}
use Rattle.tree_model.specs.Tree.{place_of, is_child, budget_at, IsNode}
use Rattle.tree_model.specs.Admission.{NodePasses, BudgetStands}

-- the node on which a part stands
abbrev pub under : SystemView → ℕ → Place
under sys q = place_of (part_at sys q).parent

-- a node is a part that stands on another node
abbrev pub StandsOn : SystemView → Place → Place → Type 0
StandsOn sys (Part q) node = is_child sys node q ≡ true
StandsOn sys (Core c) node = ⊥

-- two lists of budgets agree on a node, where it is a part, and on its children
abbrev pub SameBudget : List ℕ → List ℕ → Place → Type 0
SameBudget b c (Part q) = budget_at b q ≡ budget_at c q
SameBudget b c (Core d) = Unit {0}

pub record AgreeAt (sys : SystemView) (b c : List ℕ) (node : Place) : Type 0 where
  pub own : SameBudget b c node
  pub children : (q : ℕ) → q < length sys.parts → is_child sys node q ≡ true →
      budget_at b q ≡ budget_at c q

-- the budget of a node stands, where it is a part, and the node passes under it
abbrev pub BudgetStandsAt : SystemView → List ℕ → Place → Type 0
BudgetStandsAt sys b (Part q) = BudgetStands sys b q (part_at sys q).budget
BudgetStandsAt sys b (Core c) = Unit {0}

pub record IsSettledNode (sys : SystemView) (b : List ℕ) (node : Place) : Type 0 where
  pub stands : BudgetStandsAt sys b node
  pub passes : NodePasses sys b node

-- these budgets settle every node but one and that on which it stands, wherever the budgets of
-- the node and of its children are as here
pub record IsKept (sys : SystemView) (kept : List ℕ) (start : Place) : Type 0 where
  pub one_each : length kept ≡ length sys.parts
  pub is_node : IsNode sys start
  pub nodes : (node : Place) → IsNode sys node → (node ≡ start → ⊥) →
      (StandsOn sys start node → ⊥) → (b : List ℕ) → AgreeAt sys b kept node →
      IsSettledNode sys b node
