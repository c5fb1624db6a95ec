-- A permitted run of the tree exists over every supply and every release, from moment 0 and
-- whenever each part starts.
use Rattle.std.proofs.Common.{ℕ, Bool, List}
use Rattle.slot_model.specs.declared.job.Job.{Job}
use Rattle.tree_model.specs.View.{SystemView}
use Rattle.tree_model.specs.System.{IsSystem}
use Rattle.tree_model.specs.Tree.{HasTreeRun, HasStartedRun}
use Rattle.tree_model.proofs.FirstTrees.{first_tree_exists, first_tree_permitted}
use Rattle.tree_model.proofs.StartedTrees.{started_exists}
use Rattle.fp_request.proofs.Strict.{order_strict}

pub tree_exists : (sys : SystemView) (budgets : List ℕ) (n : ℕ) (supplies : List (List Bool)) (jobs : List (List Job))
    → IsSystem sys → HasTreeRun sys budgets n supplies jobs
tree_exists sys budgets n supplies jobs fits =
    let r = first_tree_exists order_strict sys budgets n supplies jobs fits in
    (r.0, r.1, first_tree_permitted sys budgets n supplies jobs r.0 r.1 r.2)

pub started_tree_exists : (sys : SystemView) (budgets starts : List ℕ) (n : ℕ) (supplies : List (List Bool))
    (jobs : List (List Job)) → IsSystem sys → HasStartedRun sys budgets starts n supplies jobs
started_tree_exists = started_exists order_strict
