-- A chain shows that a task has no hit.
use Rattle.std.proofs.Common.{ℕ, suc, ◌+◌, ◌-◌, ◌≤◌, Bool, List, length, get_or, arith}
use Rattle.slot_model.specs.Task.{SporadicTask, AreConstrained}
use Rattle.slot_model.specs.Bound.{IsShortTask}
use Rattle.slot_model.specs.Points.{IsChain}
use Rattle.slot_model.proofs.Points.{between}
use Rattle.slot_model.proofs.Rising.{never_falls_far}
use Rattle.fp_request.proofs.Rises.{rbf-rises}

pub chain_shows : (above : ℕ → ℕ → Bool) (tasks : List SporadicTask) → AreConstrained tasks → (bound : ℕ → ℕ)
    → ((t : ℕ) → bound t ≤ bound (suc t)) → (i : ℕ) (falls : List ℕ) → IsChain above tasks bound i falls
    → IsShortTask above tasks bound i
chain_shows above tasks fit bound rises i falls chain = λ t l m.
    let (j, on)
    = between falls t (length falls - 1) (omega (arith, chain.some_point)) (omega (arith, chain.from_one))
    (omega (arith, chain.to_deadline)) in
    omega (
      arith,
      on,
      chain.steps j on.in_list,
      never_falls_far bound rises t (get_or falls (j + 1) 0 - 1) (omega (arith, on)),
      rbf-rises above tasks fit i (get_or falls j 0) t on.from,
    )
