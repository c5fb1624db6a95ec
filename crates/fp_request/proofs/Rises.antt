-- The request bound never falls.
use Rattle.std.proofs.Common.{ℕ, ◌+◌, ◌-◌, ◌≤◌, Bool, cond, List, length, arith, mul-le-mul_right}
use Rattle.slot_model.specs.Task.{SporadicTask, AreConstrained, task_at}
use Rattle.slot_model.specs.Bound.{request_of, rbf}
use Rattle.slot_model.proofs.Sums.{sum_below-le, cond_rises}
use Rattle.slot_model.proofs.Demand.{quotient_rises}

-- a longer window asks for no less
pub rbf-rises : (above : ℕ → ℕ → Bool) (tasks : List SporadicTask) → AreConstrained tasks → (i t u : ℕ) → t ≤ u
    → rbf above tasks i t ≤ rbf above tasks i u
rbf-rises above tasks fits i t u l = omega (
  arith,
  sum_below-le (λ k. cond (above k i) (request_of (task_at tasks k) t) 0)
      (λ k. cond (above k i) (request_of (task_at tasks k) u) 0) (length tasks) (λ k m. cond_rises (above k i) _ _
      (mul-le-mul_right (task_at tasks k).work (quotient_rises
      (t + (task_at tasks k).jitter + ((task_at tasks k).period - 1))
      (u + (task_at tasks k).jitter + ((task_at tasks k).period - 1)) (task_at tasks k).period
      (omega (arith, (fits k m).works, (fits k m).in_deadline, (fits k m).in_period)) (omega arith)))),
)
