-- The nodes of the cores and of the parts that have run so far, and what they give.
use Rattle.std.specs.Prelude.{◌≡◌, ℕ, ◌<◌, List, length}
use Rattle.slot_model.specs.declared.job.Job.{Job}
use Rattle.guest_sched.specs.Spans.{Window, AreSpans, slots_of, run_of}
use Rattle.tree_model.specs.declared.place.Place.{Place}
use Rattle.tree_model.specs.declared.place.Place.TheVariants.{Core}
use Rattle.tree_model.specs.View.{SystemView}
use Rattle.tree_model.specs.Tree.{server_tasks, server_jobs, supply_of}
use Rattle.tree_model.specs.Releases.{jobs_at}
use Rattle.tree_spans.specs.NodeView.{NodeView}
use Rattle.tree_spans.specs.Shares.{AreShares}
use Rattle.tree_spans.specs.TreeSpans.{given_at, node_at, runs_of, IsServerNode, IsPartNode}

-- the nodes of the first m cores, and of the first m parts
pub record AreCoreNodes (sys : SystemView) (budgets : List ℕ) (n : ℕ)
    (given : List (List Window)) (m : ℕ) (nodes : List NodeView) : Type 0 where
  pub long : length nodes ≡ m
  pub each : (c : ℕ) → c < m →
      IsServerNode sys budgets n (Core c) (slots_of (given_at given c) n) (node_at nodes c)

pub record ArePartNodes (sys : SystemView) (budgets : List ℕ) (n : ℕ) (jobs : List (List Job))
    (cores : List NodeView) (m : ℕ) (nodes : List NodeView) : Type 0 where
  pub long : length nodes ≡ m
  pub each : (q : ℕ) → q < m → IsPartNode sys budgets n q (jobs_at jobs q)
      (supply_of sys budgets n (runs_of cores) (runs_of nodes) q) (node_at nodes q)

-- what each child gets of a core or an inner part
pub record GivesShares (sys : SystemView) (budgets : List ℕ) (n : ℕ) (place : Place)
    (node : NodeView) : Type 0 where
  pub spans : AreSpans node.spans n
  pub shares : AreShares (server_jobs sys budgets place n) (run_of node.spans) n
      (length (server_tasks sys budgets place)) node.shares

pub record CoresGive (sys : SystemView) (budgets : List ℕ) (n : ℕ)
    (cores : List NodeView) : Type 0 where
  pub long : length cores ≡ length sys.cores
  pub each : (c : ℕ) → c < length sys.cores → GivesShares sys budgets n (Core c) (node_at cores c)
