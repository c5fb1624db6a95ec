-- What a walk over a tree keeps of the nodes that have run so far.
use Rattle.std.specs.Prelude.{ℕ, ◌<◌, List, length}
use Rattle.slot_model.specs.declared.job.Job.{Job}
use Rattle.guest_sched.specs.Spans.{Window}
use Rattle.tree_model.specs.declared.place.Place.{Place}
use Rattle.tree_model.specs.declared.place.Place.TheVariants.{Core, Part}
use Rattle.tree_model.specs.View.{SystemView}
use Rattle.tree_spans.specs.NodeView.{NodeView}
use Rattle.tree_spans.specs.inner.Nodes.{AreCoreNodes, ArePartNodes, CoresGive}
use Rattle.tree_spans.specs.KeptNodes.{IsKeptAt, AreKept, ran_of_core, ran_of_part}

-- kept of the first m cores, and of all of them
pub record AreCoresKept {K : Type 0} (is_kept_of : K → NodeView → ℕ → Type 0) (sys : SystemView)
    (budgets : List ℕ) (n : ℕ) (given : List (List Window)) (m : ℕ) (cores : List K)
    : Type 0 where
  pub nodes : List NodeView
  pub are_nodes : AreCoreNodes sys budgets n given m nodes
  pub kept : AreKept is_kept_of (ran_of_core sys 0) cores nodes

pub record HasCores {K : Type 0} (is_kept_of : K → NodeView → ℕ → Type 0) (sys : SystemView)
    (budgets : List ℕ) (n : ℕ) (cores : List K) : Type 0 where
  pub nodes : List NodeView
  pub give : CoresGive sys budgets n nodes
  pub kept : AreKept is_kept_of (ran_of_core sys 0) cores nodes

-- and once the first m parts have run, each over the windows that its parent kept for it
pub record ArePartsKept {K : Type 0} (is_kept_of : K → NodeView → ℕ → Type 0) (sys : SystemView)
    (budgets : List ℕ) (n : ℕ) (jobs : List (List Job)) (core_nodes : List NodeView) (m : ℕ)
    (cores parts : List K) : Type 0 where
  pub nodes : List NodeView
  pub are_nodes : ArePartNodes sys budgets n jobs core_nodes m nodes
  pub core_kept : AreKept is_kept_of (ran_of_core sys m) cores core_nodes
  pub part_kept : AreKept is_kept_of (ran_of_part sys m) parts nodes

-- kept of the node at a place, of whose children the next one is child k
abbrev pub IsKeptIn : {K : Type 0} → (K → NodeView → ℕ → Type 0) → List K → List K → Place →
    NodeView → ℕ → Type 0
IsKeptIn {K} is_kept_of cores parts (Core c) node k = IsKeptAt is_kept_of cores c node k
IsKeptIn {K} is_kept_of cores parts (Part q) node k = IsKeptAt is_kept_of parts q node k

pub record HasChild {K : Type 0} (is_kept_of : K → NodeView → ℕ → Type 0) (cores parts : List K)
    (place : Place) (node : NodeView) (k : ℕ) : Type 0 where
  pub kept : IsKeptIn is_kept_of cores parts place node k
  pub child : k < length node.shares
