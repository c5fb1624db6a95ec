-- The first run of the tree as spans.
use Rattle.std.specs.Prelude.{◌≡◌, ℕ, ◌^◌, ◌<◌, Bool, true, false, List, [], length, map, slice_index_or, Option, None}
use Rattle.slot_model.specs.declared.job.Job.{Job}
use Rattle.guest_sched.specs.Spans.{Window, AreWindows, AreSpans, slots_of, run_of}
use Rattle.span_counts.specs.Counts.{AreCounts}
use Rattle.tree_model.specs.declared.place.Place.{Place}
use Rattle.tree_model.specs.declared.place.Place.TheVariants.{Core, Part}
use Rattle.tree_model.specs.View.{SystemView}
use Rattle.tree_model.specs.System.{part_at, own_tasks_at, is_leaf_at}
use Rattle.tree_model.specs.Tree.{IsNode, place_of, server_tasks, server_jobs, supply_of}
use Rattle.tree_model.specs.Releases.{jobs_at}
use Rattle.tree_model.specs.FirstTree.{FirstServers, FirstLeaf, FirstTree}
use Rattle.tree_spans.specs.NodeView.{NodeView, TreeView}
use Rattle.tree_spans.specs.Shares.{AreShares}

abbrev pub given_at : List (List Window) → ℕ → List Window
given_at given c = slice_index_or given c []

-- one list of windows a core
pub record AreSupplies (sys : SystemView) (n : ℕ) (given : List (List Window)) : Type 0 where
  pub one_each : length given ≡ length sys.cores
  pub windows : (c : ℕ) → c < length sys.cores → AreWindows (given_at given c) n

-- one list of n slots a core, and the windows of the first m of them
abbrev pub AreLists : ℕ → List (List Bool) → Type 0
AreLists n given = (c : ℕ) → c < length given → length (slice_index_or given c []) ≡ n

pub record AreWindowsOf (n : ℕ) (given : List (List Bool)) (m : ℕ)
    (lists : List (List Window)) : Type 0 where
  pub long : length lists ≡ m
  pub windows : (c : ℕ) → c < m → AreWindows (given_at lists c) n
  pub same : (c : ℕ) → c < m → slots_of (given_at lists c) n ≡ slice_index_or given c []

-- each node has fewer than 2^32 jobs
pub record AreFewJobs (sys : SystemView) (budgets : List ℕ) (n : ℕ)
    (jobs : List (List Job)) : Type 0 where
  pub servers : (node : Place) → IsNode sys node →
      length (server_jobs sys budgets node n) < 2 ^ 32
  pub own : (q : ℕ) → q < length sys.parts → length (jobs_at jobs q) < 2 ^ 32

abbrev pub no_node : NodeView
no_node =
    record {
      spans = [];
      shares = [];
      counts = record { given = 0; released = 0; missed = 0; first = None };
    }

abbrev pub node_at : List NodeView → ℕ → NodeView
node_at nodes i = slice_index_or nodes i no_node

-- the runs that the spans of nodes spell
abbrev pub runs_of : List NodeView → List (List (Option ℕ))
runs_of nodes = map (λ (node : NodeView). run_of node.spans) nodes

-- the lists of slots of windows
abbrev pub supplies_of : List (List Window) → ℕ → List (List Bool)
supplies_of given n = map (λ (windows : List Window). slots_of windows n) given

-- a node of servers: the first run over its slots, what each child gets of it, and its counts
pub record IsServerNode (sys : SystemView) (budgets : List ℕ) (n : ℕ) (place : Place)
    (slots : List Bool) (node : NodeView) : Type 0 where
  pub spans : AreSpans node.spans n
  pub first : FirstServers sys budgets n place slots (run_of node.spans)
  pub shares : AreShares (server_jobs sys budgets place n) (run_of node.spans) n
      (length (server_tasks sys budgets place)) node.shares
  pub counts : AreCounts (server_tasks sys budgets place) (server_jobs sys budgets place n) slots
      (run_of node.spans) node.counts

-- a leaf: the first run of its jobs over its slots, its counts, and no children
pub record IsLeafNode (sys : SystemView) (n q : ℕ) (jobs : List Job) (slots : List Bool)
    (node : NodeView) : Type 0 where
  pub spans : AreSpans node.spans n
  pub first : FirstLeaf sys q jobs slots (run_of node.spans)
  pub no_shares : node.shares ≡ []
  pub counts : AreCounts (own_tasks_at sys q) jobs slots (run_of node.spans) node.counts

pub record IsPartNode (sys : SystemView) (budgets : List ℕ) (n q : ℕ) (jobs : List Job)
    (slots : List Bool) (node : NodeView) : Type 0 where
  pub inner : is_leaf_at sys q ≡ false → IsServerNode sys budgets n (Part q) slots node
  pub leaf : is_leaf_at sys q ≡ true → IsLeafNode sys n q jobs slots node

-- the place of a part's parent
abbrev pub parent_of : SystemView → ℕ → Place
parent_of sys q = place_of (part_at sys q).parent

-- the spans of a tree spell its one first run; each core and inner part tells what its children
-- get, and each node its counts
pub record AreTreeSpans (sys : SystemView) (budgets : List ℕ) (n : ℕ)
    (supplies : List (List Bool)) (jobs : List (List Job)) (tree : TreeView) : Type 0 where
  pub first : FirstTree sys budgets n supplies jobs (runs_of tree.cores) (runs_of tree.parts)
  pub each_core : length tree.cores ≡ length sys.cores
  pub each_part : length tree.parts ≡ length sys.parts
  pub cores : (c : ℕ) → c < length sys.cores → IsServerNode sys budgets n (Core c)
      (slice_index_or supplies c []) (node_at tree.cores c)
  pub parts : (q : ℕ) → q < length sys.parts → IsPartNode sys budgets n q (jobs_at jobs q)
      (supply_of sys budgets n (runs_of tree.cores) (runs_of tree.parts) q) (node_at tree.parts q)
