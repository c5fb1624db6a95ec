-- The first run of a tree of which the counts alone are kept.
use Rattle.std.specs.Prelude.{ℕ, Bool, List, Option}
use Rattle.slot_model.specs.declared.job.Job.{Job}
use Rattle.tree_model.specs.View.{SystemView}
use Rattle.tree_model.specs.FirstTree.{FirstTree}
use Rattle.tree_spans.specs.TreeCounts.{CountsView, AreTreeCounts}

-- the counts of the one first run of the tree
pub record AreFirstCounts (sys : SystemView) (budgets : List ℕ) (n : ℕ)
    (supplies : List (List Bool)) (jobs : List (List Job)) (counts : CountsView)
    : Type 0 where
  pub core_runs : List (List (Option ℕ))
  pub part_runs : List (List (Option ℕ))
  pub first : FirstTree sys budgets n supplies jobs core_runs part_runs
  pub counted : AreTreeCounts sys budgets n supplies jobs core_runs part_runs counts
