-- What is short of the leaves that a walk has been over.
use Rattle.std.specs.Prelude.{◌≡◌, ℕ, ◌<◌, ◌≤◌, true, List, length, Option}
use Rattle.slot_model.specs.declared.sched.Short.{Short}
use Rattle.tree_model.specs.View.{SystemView}
use Rattle.tree_model.specs.System.{part_at, is_computed_leaf}
use Rattle.tree_model.specs.Tree.{budget_at}
use Rattle.compose_tree.specs.Shorts.{IsShortOf, short_at}

-- of the computed leaves from part k on that have a place
abbrev pub ShortsFrom : SystemView → List ℕ → List (Option Short) → ℕ → Type 0
ShortsFrom sys budgets shorts k =
    (q : ℕ) → k ≤ q → q < length shorts → q < length sys.parts →
    is_computed_leaf (part_at sys q) ≡ true →
    IsShortOf (part_at sys q) (budget_at budgets q) (short_at shorts q)
