-- The certificate that is made for a system: what each node lists, so that one certificate is left.
use Rattle.std.specs.Prelude.{◌≡◌, ℕ, ◌-◌, ◌^◌, ◌<◌, ◌≤◌, Bool, true, false, List, [], length, slice_index, Option, Some, None}
use Rattle.slot_model.specs.declared.sched.Sched.{Sched}
use Rattle.slot_model.specs.declared.sched.Sched.TheVariants.{Edf, Rm, Dm, Listed}
use Rattle.slot_model.specs.Task.{SporadicTask}
use Rattle.slot_model.specs.Order.{ranks_above}
use Rattle.slot_model.specs.Bound.{sbf, IsHit, IsHorizon, IsFirstShortPoint, IsFirstShortTask}
use Rattle.slot_model.specs.Points.{IsCover, IsBackward}
use Rattle.fp_test.specs.Falls.{AreFalls}
use Rattle.tree_model.specs.CertificateView.{NodeView}
use Rattle.tree_model.specs.View.{SystemView}
use Rattle.tree_model.specs.Tree.{node_tasks, node_sched, node_cycle, node_bound}
use Rattle.cert_verify.specs.Proves.{node_at, AreNodes, HasBudget, budgets_of}

-- the cover of the walk backwards from the horizon
pub record IsBackwardCover
    (tasks : List SporadicTask) (bound : ℕ → ℕ) (cycle : ℕ) (points : List ℕ) : Type 0 where
  pub horizon : ℕ
  pub is_horizon : IsHorizon tasks cycle horizon
  pub small : horizon ≤ 2 ^ 128 - 2
  pub cover : IsCover tasks bound horizon points
  pub backward : IsBackward tasks bound horizon points

-- one hit a task, each the least
pub record AreLeastHits
    (above : ℕ → ℕ → Bool) (tasks : List SporadicTask) (bound : ℕ → ℕ) (hits : List ℕ)
    : Type 0 where
  pub one_each : length hits ≡ length tasks
  pub each : (i : ℕ) → i < length tasks → IsHit above tasks bound i (slice_index hits i)
  pub least : (i u : ℕ) → i < length tasks → u < slice_index hits i →
      IsHit above tasks bound i u → ⊥

-- the points and the hits of a node that passes
abbrev pub ListsPass : Sched → List SporadicTask → (ℕ → ℕ) → ℕ → List ℕ → List ℕ → Type 0
ListsPass Edf tasks bound cycle points hits = IsBackwardCover tasks bound cycle points × (hits ≡ [])
ListsPass Rm tasks bound cycle points hits =
    AreLeastHits (ranks_above Rm tasks) tasks bound hits × (points ≡ [])
ListsPass Dm tasks bound cycle points hits =
    AreLeastHits (ranks_above Dm tasks) tasks bound hits × (points ≡ [])
ListsPass Listed tasks bound cycle points hits =
    AreLeastHits (ranks_above Listed tasks) tasks bound hits × (points ≡ [])

-- the witness is the least short window
pub record IsLeastWindow
    (tasks : List SporadicTask) (bound : ℕ → ℕ) (witness : Option ℕ) (falls : List ℕ) : Type 0 where
  pub window : ℕ
  pub is : witness ≡ Some window
  pub first : IsFirstShortPoint tasks bound window
  pub no_falls : falls ≡ []

-- the witness is the first task without a hit, and its falls
pub record IsFirstTask
    (above : ℕ → ℕ → Bool) (tasks : List SporadicTask) (bound : ℕ → ℕ)
    (witness : Option ℕ) (falls : List ℕ) : Type 0 where
  pub task : ℕ
  pub is : witness ≡ Some task
  pub first : IsFirstShortTask above tasks bound task
  pub are_falls : AreFalls above tasks bound task falls

-- what is short under a supply of this bound
abbrev pub ListsShort : Sched → List SporadicTask → (ℕ → ℕ) → Option ℕ → List ℕ → Type 0
ListsShort Edf tasks bound witness falls = IsLeastWindow tasks bound witness falls
ListsShort Rm tasks bound witness falls =
    IsFirstTask (ranks_above Rm tasks) tasks bound witness falls
ListsShort Dm tasks bound witness falls =
    IsFirstTask (ranks_above Dm tasks) tasks bound witness falls
ListsShort Listed tasks bound witness falls =
    IsFirstTask (ranks_above Listed tasks) tasks bound witness falls

-- of a computed budget, what is short at one slot less; of any other, nothing
abbrev pub ListsLeast :
    Bool → Sched → List SporadicTask → (period budget : ℕ) → Option ℕ → List ℕ → Type 0
ListsLeast true sched tasks period budget witness falls =
    ListsShort sched tasks (sbf period (budget - 1)) witness falls
ListsLeast false sched tasks period budget witness falls = (witness ≡ None) × (falls ≡ [])

-- a node as it is made under these budgets
pub record IsMade (sys : SystemView) (budgets : List ℕ) (node : NodeView) : Type 0 where
  pub has : HasBudget sys node
  pub pass :
      let place = node.place in
      ListsPass (node_sched sys place) (node_tasks sys budgets place)
      (node_bound sys budgets place) (node_cycle sys place) node.points node.hits
  pub least :
      let place = node.place in
      ListsLeast node.computed (node_sched sys place) (node_tasks sys budgets place)
      node.period node.budget node.witness node.falls

-- the certificate of a system
pub record IsCertificate (sys : SystemView) (nodes : List NodeView) : Type 0 where
  pub are_nodes : AreNodes sys nodes
  pub each : (k : ℕ) → k < length nodes → IsMade sys (budgets_of sys nodes) (node_at nodes k)
