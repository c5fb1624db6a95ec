-- The first thing that a certificate claims in vain: its nodes, then a budget, then node by node
-- what a node is to show.
use Rattle.std.specs.Prelude.{◌≡◌, ◌≢◌, ◌⊎◌, ℕ, ◌<◌, Bool, List, length}
use Rattle.slot_model.specs.declared.sched.Sched.{Sched}
use Rattle.slot_model.specs.declared.sched.Sched.TheVariants.{Edf}
use Rattle.slot_model.specs.Task.{SporadicTask}
use Rattle.slot_model.specs.Order.{ranks_above}
use Rattle.slot_model.specs.Bound.{IsSmall}
use Rattle.tree_model.specs.declared.place.Place.{Place}
use Rattle.tree_model.specs.CertificateView.{NodeView}
use Rattle.tree_model.specs.View.{SystemView}
use Rattle.tree_model.specs.Tree.{node_tasks, node_sched, node_cycle, node_bound}
use Rattle.cert_verify.specs.declared.flaw.Flaw.{Flaw}
use Rattle.cert_verify.specs.declared.flaw.Flaw.TheVariants.{Nodes, Budget, Cover, Hit, Least, Wide}
use Rattle.cert_verify.specs.Proves.{node_at, AreNodes, HasBudget, budgets_of, IsCovered, HasHits, IsHitOf, ShowsPass, ShowsLeast, NodeProves}

-- of the nodes the first that is not good, and what is bad there
pub record FirstNode (nodes : List NodeView) (Good Bad : NodeView → Type 0) : Type 0 where
  pub k : ℕ
  pub is_node : k < length nodes
  pub before : (j : ℕ) → j < k → Good (node_at nodes j)
  pub bad : Bad (node_at nodes k)

-- the first task whose hit is none
pub record IsFirstBadHit (above : ℕ → ℕ → Bool) (tasks : List SporadicTask) (bound : ℕ → ℕ)
    (node : NodeView) (i : ℕ) : Type 0 where
  pub lists : HasHits tasks node
  pub is_task : i < length tasks
  pub before : (k : ℕ) → k < i → IsHitOf above tasks bound node k
  pub bad : IsHitOf above tasks bound node i → ⊥

-- a hit fails at place 0 also where the node has not the lists that it is to have
abbrev pub HitFails : (ℕ → ℕ → Bool) → List SporadicTask → (ℕ → ℕ) → NodeView → ℕ → Type 0
HitFails above tasks bound node i =
    ((i ≡ 0) × (HasHits tasks node → ⊥)) ⊎ IsFirstBadHit above tasks bound node i

-- the first flaw of a node: its horizon is too wide, its points are no cover, a hit fails, or it
-- passes and its budget is not shown to be the least
abbrev pub NodeFlaw : Sched → List SporadicTask → (ℕ → ℕ) → ℕ → NodeView → Flaw → Type 0
NodeFlaw sched tasks bound cycle node (Wide place) =
    (place ≡ node.place) × (IsSmall sched tasks cycle → ⊥)
NodeFlaw sched tasks bound cycle node (Cover place) =
    (place ≡ node.place) × (sched ≡ Edf) × IsSmall Edf tasks cycle ×
    (IsCovered tasks bound cycle node → ⊥)
NodeFlaw sched tasks bound cycle node (Hit place i) =
    (place ≡ node.place) × (sched ≢ Edf) × HitFails (ranks_above sched tasks) tasks bound node i
NodeFlaw sched tasks bound cycle node (Least place) =
    (place ≡ node.place) × ShowsPass sched tasks bound cycle node ×
    (ShowsLeast node.computed sched tasks node → ⊥)
NodeFlaw sched tasks bound cycle node Nodes = ⊥
NodeFlaw sched tasks bound cycle node (Budget place) = ⊥

abbrev pub NodeFails : SystemView → List ℕ → Flaw → NodeView → Type 0
NodeFails sys budgets flaw node =
    NodeFlaw (node_sched sys node.place) (node_tasks sys budgets node.place)
    (node_bound sys budgets node.place) (node_cycle sys node.place) node flaw

-- the budgets of all nodes are right, and this is the first flaw of the first node whose claims do
-- not hold
pub record FirstFalseClaim (sys : SystemView) (nodes : List NodeView) (flaw : Flaw) : Type 0 where
  pub are_nodes : AreNodes sys nodes
  pub budgets : (k : ℕ) → k < length nodes → HasBudget sys (node_at nodes k)
  pub node : FirstNode nodes (NodeProves sys (budgets_of sys nodes))
      (NodeFails sys (budgets_of sys nodes) flaw)

pub record FirstFalseBudget (sys : SystemView) (nodes : List NodeView) (place : Place)
    : Type 0 where
  pub are_nodes : AreNodes sys nodes
  pub node : FirstNode nodes (HasBudget sys)
      (λ node. (place ≡ node.place) × (HasBudget sys node → ⊥))

abbrev pub FirstFlaw : SystemView → List NodeView → Flaw → Type 0
FirstFlaw sys nodes Nodes = AreNodes sys nodes → ⊥
FirstFlaw sys nodes (Budget place) = FirstFalseBudget sys nodes place
FirstFlaw sys nodes (Cover place) = FirstFalseClaim sys nodes (Cover place)
FirstFlaw sys nodes (Hit place i) = FirstFalseClaim sys nodes (Hit place i)
FirstFlaw sys nodes (Least place) = FirstFalseClaim sys nodes (Least place)
FirstFlaw sys nodes (Wide place) = FirstFalseClaim sys nodes (Wide place)
