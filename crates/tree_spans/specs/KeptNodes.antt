-- What is kept of the nodes of a tree. `is_kept_of one node k` says that `one` is kept of this run
-- of a node, of whose children the first k have run.
use Rattle.std.specs.Prelude.{◌≡◌, ℕ, ◌<◌, Bool, List, length, slice_index_or}
use Rattle.slot_model.specs.declared.job.Job.{Job}
use Rattle.slot_model.specs.Slots.{count_below}
use Rattle.tree_model.specs.declared.place.Place.TheVariants.{Core, Part}
use Rattle.tree_model.specs.View.{SystemView}
use Rattle.tree_model.specs.Tree.{is_child}
use Rattle.tree_spans.specs.NodeView.{NodeView, TreeView}
use Rattle.tree_spans.specs.TreeSpans.{node_at, AreTreeSpans}

-- kept of some run of a kind, none of whose children has run
pub record IsKeptOf {K : Type 0} (is_kept_of : K → NodeView → ℕ → Type 0)
    (Is : NodeView → Type 0) (one : K) : Type 0 where
  pub node : NodeView
  pub is_node : Is node
  pub kept : is_kept_of one node 0

-- entry i of a list is kept of a node; since the entry is there, the default of `is` plays no part
pub record IsKeptAt {K : Type 0} (is_kept_of : K → NodeView → ℕ → Type 0) (kept : List K) (i : ℕ)
    (node : NodeView) (k : ℕ) : Type 0 where
  pub there : i < length kept
  pub is : (one : K) → one ≡ slice_index_or kept i one → is_kept_of one node k

-- each entry is kept of a node, of whose children so many have run
pub record AreKept {K : Type 0} (is_kept_of : K → NodeView → ℕ → Type 0) (ran : ℕ → ℕ)
    (kept : List K) (nodes : List NodeView) : Type 0 where
  pub one_each : length kept ≡ length nodes
  pub each : (i : ℕ) → i < length nodes → IsKeptAt is_kept_of kept i (node_at nodes i) (ran i)

-- how many children of a core, and of a part, are among the first m parts
abbrev pub ran_of_core : SystemView → ℕ → ℕ → ℕ
ran_of_core sys m c = count_below (is_child sys (Core c)) m

abbrev pub ran_of_part : SystemView → ℕ → ℕ → ℕ
ran_of_part sys m q = count_below (is_child sys (Part q)) m

-- kept of the nodes of the one first run of a tree, all of which have run
pub record IsTreeKept {K : Type 0} (is_kept_of : K → NodeView → ℕ → Type 0) (sys : SystemView)
    (budgets : List ℕ) (n : ℕ) (supplies : List (List Bool)) (jobs : List (List Job))
    (cores parts : List K) : Type 0 where
  pub tree : TreeView
  pub is_tree : AreTreeSpans sys budgets n supplies jobs tree
  pub core_kept : AreKept is_kept_of (ran_of_core sys (length sys.parts)) cores tree.cores
  pub part_kept : AreKept is_kept_of (ran_of_part sys (length sys.parts)) parts tree.parts
