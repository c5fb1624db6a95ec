-- The plain test of earliest deadline first over the servers of a core, by their parts.
use Rattle.std.proofs.Common.{◌≡◌, ℕ, zero, suc, ◌+◌, ◌*◌, ◌-◌, ◌/◌, ◌%◌, ◌<◌, ◌≤◌, cond, nat_le, List, map, sym, ◌∙◌, ap, arith, inl, inr, le-leb}
use Rattle.std.proofs.lemmas.Bool.{cases_lt, cond-true, cond-false, lt-leb}
use Rattle.slot_model.specs.Slots.{sum_below}
use Rattle.slot_model.specs.Task.{SporadicTask}
use Rattle.slot_model.specs.Bound.{demand_of, dbf}
use Rattle.slot_model.proofs.Sums.{sum_below-zero, sum_below-suc}
use Rattle.slot_model.proofs.Places.{sum_by-push_if, places_where-zero}
use Rattle.tree_model.specs.declared.place.Place.{Place}
use Rattle.tree_model.specs.View.{SystemView}
use Rattle.tree_model.specs.System.{part_at}
use Rattle.tree_model.specs.Tree.{is_child, budget_at, server_task, child_tasks}
use Rattle.tree_model.proofs.NodeTasks.{child_tasks-suc}
use Rattle.rtds_model.proofs.Demands.{steady_demand, quotient_is}

-- a server asks for its budget in each whole period
server_demand : (P B t : ℕ) → 1 ≤ P → cond (nat_le P (t + 0)) (((t + 0 - P) / P + 1) * B) 0 ≡ steady_demand P B t
server_demand P B t p = elim (cases_lt t P) [
  | inl l ↦
      let none : t / P ≡ 0 = quotient_is 0 P t t l (omega arith) in
      omega (
        arith,
        cond-false {A = ℕ} (nat_le P (t + 0)) (((t + 0 - P) / P + 1) * B) 0 (lt-leb P (t + 0) (omega arith)),
        ap (λ (z : ℕ). z * B) none,
      )
  | inr l ↦
      let s : ℕ = (t + 0 - P) % P in
      let one : t / P ≡ (t + 0 - P) / P + 1 = quotient_is ((t + 0 - P) / P + 1) P s t (omega arith) (omega arith) in
      omega (
        arith,
        cond-true {A = ℕ} (nat_le P (t + 0)) (((t + 0 - P) / P + 1) * B) 0 (le-leb P (t + 0) (omega arith)),
        ap (λ (z : ℕ). z * B) one,
      )
]

-- the demand bound of the servers of a node
pub dbf-parts : (sys : SystemView) (budgets : List ℕ) (node : Place) (t n : ℕ)
    → ((u : ℕ) → u < n → 1 ≤ (part_at sys u).period) →
    dbf (child_tasks sys budgets node n) t
    ≡ sum_below (λ u. cond (is_child sys node u) (steady_demand (part_at sys u).period (budget_at budgets u) t) 0) n
dbf-parts sys budgets node t zero some =
    ap (λ (places : List ℕ). dbf (map (server_task sys budgets) places) t) (places_where-zero (is_child sys node))
    ∙ sym (sum_below-zero
    (λ u. cond (is_child sys node u) (steady_demand (part_at sys u).period (budget_at budgets u) t) 0))
dbf-parts sys budgets node t (suc n) some =
    let P : ℕ = (part_at sys n).period in
    let B : ℕ = budget_at budgets n in
    omega (
      arith,
      ap (λ (tasks : List SporadicTask). dbf tasks t) (child_tasks-suc sys budgets node n),
      sum_by-push_if (λ task. demand_of task t) (child_tasks sys budgets node n) (is_child sys node n)
          (server_task sys budgets n),
      sum_below-suc (λ u. cond (is_child sys node u) (steady_demand (part_at sys u).period (budget_at budgets u) t) 0)
          n,
      ap (λ (z : ℕ). cond (is_child sys node n) z 0) (server_demand P B t (some n (omega arith))),
      dbf-parts sys budgets node t n (λ u l. some u (omega arith)),
    )
