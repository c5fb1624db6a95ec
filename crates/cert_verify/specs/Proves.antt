-- When a certificate proves a system. What it claims is said node by node, for parts and cores
-- alike.
use Rattle.std.specs.Prelude.{◌≡◌, ℕ, ◌+◌, ◌-◌, ◌<◌, ◌≤◌, nat_lt, if◌then◌else◌, Bool, true, false, List, [], map, take, length, slice_index, slice_index_or, Option, Some, None}
use Rattle.slot_model.specs.declared.sched.Sched.{Sched}
use Rattle.slot_model.specs.declared.sched.Sched.TheVariants.{Edf, Rm, Dm, Listed}
use Rattle.slot_model.specs.Task.{SporadicTask}
use Rattle.slot_model.specs.Order.{ranks_above}
use Rattle.slot_model.specs.Bound.{sbf, dbf, IsHit, IsHorizon, IsSmall}
use Rattle.slot_model.specs.Points.{IsCover, IsChain}
use Rattle.tree_model.specs.declared.place.Place.{Place}
use Rattle.tree_model.specs.declared.place.Place.TheVariants.{Core, Part}
use Rattle.tree_model.specs.CertificateView.{NodeView}
use Rattle.tree_model.specs.View.{SystemView}
use Rattle.tree_model.specs.Tree.{node_tasks, node_sched, node_bound, node_cycle, given_budget}

-- the node at a place of a certificate; past its end one that claims nothing
abbrev pub no_node : NodeView
no_node =
    record {
      place = Part 0;
      period = 1;
      budget = 1;
      computed = false;
      points = [];
      hits = [];
      witness = None;
      falls = [];
    }

abbrev pub node_at : List NodeView → ℕ → NodeView
node_at nodes k = slice_index_or nodes k no_node

-- the place of node k after so many parts: all parts and then all cores, in file order
abbrev pub nth_place : ℕ → ℕ → Place
nth_place parts k = if nat_lt k parts then Part k else Core (k - parts)

pub record AreNodes (sys : SystemView) (nodes : List NodeView) : Type 0 where
  pub all : length nodes ≡ length sys.parts + length sys.cores
  pub in_order : (k : ℕ) → k < length nodes →
      (node_at nodes k).place ≡ nth_place (length sys.parts) k

-- a budget is the given one, or a computed one of 1 to the period
abbrev pub IsBudget : Option ℕ → NodeView → Type 0
IsBudget (Some given) node = (node.computed ≡ false) × (node.budget ≡ given)
IsBudget None node = (node.computed ≡ true) × (1 ≤ node.budget) × (node.budget ≤ node.period)

pub record HasBudget (sys : SystemView) (node : NodeView) : Type 0 where
  pub period : node.period ≡ node_cycle sys node.place
  pub budget : IsBudget (given_budget sys node.place) node

-- the budgets that a certificate has for the parts
abbrev pub budgets_of : SystemView → List NodeView → List ℕ
budgets_of sys nodes = map (λ (node : NodeView). node.budget) (take (length sys.parts) nodes)

-- under earliest deadline first: the points cover all windows up to the horizon, and there are no
-- hits
pub record IsCovered (tasks : List SporadicTask) (bound : ℕ → ℕ) (cycle : ℕ) (node : NodeView)
    : Type 0 where
  pub horizon : ℕ
  pub is_horizon : IsHorizon tasks cycle horizon
  pub cover : IsCover tasks bound horizon node.points
  pub no_hits : node.hits ≡ []

-- under a fixed rank: there is one hit a task, and there are no points
pub record HasHits (tasks : List SporadicTask) (node : NodeView) : Type 0 where
  pub one_each : length node.hits ≡ length tasks
  pub no_points : node.points ≡ []

abbrev pub IsHitOf : (ℕ → ℕ → Bool) → List SporadicTask → (ℕ → ℕ) → NodeView → ℕ → Type 0
IsHitOf above tasks bound node i = IsHit above tasks bound i (slice_index node.hits i)

pub record AreHits (above : ℕ → ℕ → Bool) (tasks : List SporadicTask) (bound : ℕ → ℕ)
    (node : NodeView) : Type 0 where
  pub lists : HasHits tasks node
  pub each : (i : ℕ) → i < length tasks → IsHitOf above tasks bound node i

-- what shows that a node passes under a supply of this bound and cycle
abbrev pub ShowsPass : Sched → List SporadicTask → (ℕ → ℕ) → ℕ → NodeView → Type 0
ShowsPass Edf tasks bound cycle node = IsSmall Edf tasks cycle × IsCovered tasks bound cycle node
ShowsPass Rm tasks bound cycle node = AreHits (ranks_above Rm tasks) tasks bound node
ShowsPass Dm tasks bound cycle node = AreHits (ranks_above Dm tasks) tasks bound node
ShowsPass Listed tasks bound cycle node = AreHits (ranks_above Listed tasks) tasks bound node

-- the witness is a window that asks for more than this bound, and there are no falls
pub record IsShortWindow (tasks : List SporadicTask) (bound : ℕ → ℕ) (node : NodeView)
    : Type 0 where
  pub window : ℕ
  pub witness : node.witness ≡ Some window
  pub some_slots : 1 ≤ window
  pub short : bound window < dbf tasks window
  pub no_falls : node.falls ≡ []

-- the witness is a task, and the falls are a chain for it
pub record IsChainOf (above : ℕ → ℕ → Bool) (tasks : List SporadicTask) (bound : ℕ → ℕ)
    (node : NodeView) : Type 0 where
  pub task : ℕ
  pub witness : node.witness ≡ Some task
  pub is_task : task < length tasks
  pub chain : IsChain above tasks bound task node.falls

-- what shows that a node does not pass under a supply of this bound
abbrev pub ShowsShort : Sched → List SporadicTask → (ℕ → ℕ) → NodeView → Type 0
ShowsShort Edf tasks bound node = IsShortWindow tasks bound node
ShowsShort Rm tasks bound node = IsChainOf (ranks_above Rm tasks) tasks bound node
ShowsShort Dm tasks bound node = IsChainOf (ranks_above Dm tasks) tasks bound node
ShowsShort Listed tasks bound node = IsChainOf (ranks_above Listed tasks) tasks bound node

pub record NoWitness (node : NodeView) : Type 0 where
  pub no_witness : node.witness ≡ None
  pub no_falls : node.falls ≡ []

-- a computed budget is shown to be the least by what is short at one slot less; any other has no
-- witness
abbrev pub ShowsLeast : Bool → Sched → List SporadicTask → NodeView → Type 0
ShowsLeast true sched tasks node = ShowsShort sched tasks (sbf node.period (node.budget - 1)) node
ShowsLeast false sched tasks node = NoWitness node

-- a node's claims hold for its tasks, under its scheduler and its supply's bound and cycle
pub record IsShown (sched : Sched) (tasks : List SporadicTask) (bound : ℕ → ℕ) (cycle : ℕ)
    (node : NodeView) : Type 0 where
  pub passes : ShowsPass sched tasks bound cycle node
  pub least : ShowsLeast node.computed sched tasks node

abbrev pub NodeProves : SystemView → List ℕ → NodeView → Type 0
NodeProves sys budgets node =
    IsShown (node_sched sys node.place) (node_tasks sys budgets node.place)
    (node_bound sys budgets node.place) (node_cycle sys node.place) node

-- a certificate proves a system: its nodes are those of the system, their budgets are the file's or
-- computed ones, and the claims of each node hold under these budgets
pub record Proves (sys : SystemView) (nodes : List NodeView) : Type 0 where
  pub are_nodes : AreNodes sys nodes
  pub budgets : (k : ℕ) → k < length nodes → HasBudget sys (node_at nodes k)
  pub each : (k : ℕ) → k < length nodes → NodeProves sys (budgets_of sys nodes) (node_at nodes k)
