-- What the steps of a composition answer for one node.
use Rattle.std.specs.Prelude.{◌≡◌, ℕ, ◌<◌, ◌≤◌, List, length}
use Rattle.slot_model.specs.declared.sched.Sched.{Sched}
use Rattle.slot_model.specs.Task.{SporadicTask}
use Rattle.slot_model.specs.Bound.{IsSmall, TestFails}
use Rattle.tree_model.specs.declared.place.Place.{Place}
use Rattle.tree_model.specs.declared.place.Place.TheVariants.{Part}
use Rattle.tree_model.specs.declared.plan.Refusal.{Refusal}
use Rattle.tree_model.specs.declared.plan.Refusal.TheVariants.{Overfull, Wide, NoMemory}
use Rattle.tree_model.specs.View.{SystemView}
use Rattle.tree_model.specs.Tree.{node_sched, node_tasks, node_cycle}
use Rattle.tree_model.specs.Admission.{NodePasses, refusing_bound}

-- a node refuses: its horizon is too wide, or it can be walked and this is short first
abbrev pub NodeRefuses : Sched → List SporadicTask → (ℕ → ℕ) → ℕ → Place → Refusal → Type 0
NodeRefuses sched tasks bound cycle node (Overfull place short) =
    (place ≡ node) × TestFails sched tasks bound cycle short
NodeRefuses sched tasks bound cycle node (Wide place) =
    (place ≡ node) × (IsSmall sched tasks cycle → ⊥)
NodeRefuses sched tasks bound cycle node NoMemory = ⊥

-- so a node of a system refuses under these budgets
abbrev pub RefusesAt : SystemView → List ℕ → Place → Refusal → Type 0
RefusesAt sys budgets node refusal =
    NodeRefuses (node_sched sys node) (node_tasks sys budgets node) (refusing_bound sys node)
    (node_cycle sys node) node refusal

-- the parts from k on pass
abbrev pub PartsPassFrom : SystemView → List ℕ → ℕ → Type 0
PartsPassFrom sys budgets k =
    (q : ℕ) → k ≤ q → q < length sys.parts → NodePasses sys budgets (Part q)
