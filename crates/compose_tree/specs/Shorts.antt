-- What is short first of each computed leaf with one slot less than its least budget.
use Rattle.std.specs.Prelude.{◌≡◌, ℕ, ◌<◌, true, List, length, slice_index_or, Option, None}
use Rattle.slot_model.specs.declared.sched.Short.{Short}
use Rattle.slot_model.specs.Bound.{sbf}
use Rattle.least_budget.specs.declared.answers.Least.TheVariants.{Budget}
use Rattle.least_budget.specs.Answers.{IsShortBelow}
use Rattle.tree_model.specs.View.{PartView, SystemView}
use Rattle.tree_model.specs.System.{part_at, own_tasks, is_computed_leaf}
use Rattle.tree_model.specs.Tree.{budget_at}

-- of a leaf with this budget
abbrev pub IsShortOf : PartView → ℕ → Option Short → Type 0
IsShortOf leaf budget short =
    IsShortBelow leaf.sched (own_tasks leaf) (sbf leaf.period) (Budget budget) short

abbrev pub short_at : List (Option Short) → ℕ → Option Short
short_at shorts q = slice_index_or shorts q None

-- each part has a place, and what is short of a computed leaf stands there
pub record AreShorts (sys : SystemView) (budgets : List ℕ) (shorts : List (Option Short))
    : Type 0 where
  pub one_each : length shorts ≡ length sys.parts
  pub each : (q : ℕ) → q < length sys.parts → is_computed_leaf (part_at sys q) ≡ true →
      IsShortOf (part_at sys q) (budget_at budgets q) (short_at shorts q)
