-- The demand bound function in closed form, and that it never falls.
use Rattle.std.proofs.Common.{◌≡◌, ℕ, ◌+◌, ◌*◌, ◌-◌, ◌/◌, ◌≤◌, leb, List, length, sym, ◌∙◌, ap, arith, inl, inr, le-leb, mul-le-mul_right, div-mul-le_self}
use Rattle.std.proofs.lemmas.Bool.{cases_lt, cond-true, cond-false, lt-leb}
use Rattle.std.proofs.lemmas.Nat.{le-div}
use Rattle.std.proofs.Math.Nat.{add-mul-div_right, div-eq_of_lt}
use Rattle.slot_model.specs.Task.{AreConstrained, IsConstrained, default_task, room_of, task_at, SporadicTask}
use Rattle.slot_model.specs.Bound.{demand_of, dbf}
use Rattle.slot_model.proofs.Sums.{sum_below-le, sum_below-same, sum_below-none}
use Rattle.slot_model.proofs.Windows.{sum_by-places}

-- a task's demand as one quotient
pub demand_closed : (b : SporadicTask) → IsConstrained b → (t : ℕ)
    → demand_of b t ≡ ((t + (b.period - room_of b)) / b.period) * b.work
demand_closed b f t = elim (cases_lt (t + b.jitter) b.deadline) [
  | inl l ↦
      omega (
        arith,
        cond-false {A = ℕ} (leb b.deadline (t + b.jitter)) (((t + b.jitter - b.deadline) / b.period + 1) * b.work) 0
            (lt-leb _ _ l),
        ap (λ (z : ℕ). z * b.work) (div-eq_of_lt {n = t + (b.period - room_of b)} {m = b.period}
            (omega (arith, f.works, f.in_deadline, f.in_period))),
      )
  | inr l ↦
      let e : t + (b.period - room_of b) ≡ (t + b.jitter - b.deadline) + 1 * b.period
      = omega (arith, f.in_deadline, f.in_period) in
      let q : (t + (b.period - room_of b)) / b.period ≡ (t + b.jitter - b.deadline) / b.period + 1
      = ap (λ (z : ℕ). z / b.period) e
      ∙ add-mul-div_right (t + b.jitter - b.deadline) 1 (omega (arith, f.works, f.in_deadline, f.in_period)) in
      cond-true {A = ℕ} (leb b.deadline (t + b.jitter)) (((t + b.jitter - b.deadline) / b.period + 1) * b.work) 0
      (le-leb _ _ l) ∙ sym (ap (λ (z : ℕ). z * b.work) q)
]

pub quotient_rises : (x y p : ℕ) → 1 ≤ p → x ≤ y → x / p ≤ y / p
quotient_rises x y p l m = le-div (x / p) y p l (omega (arith, div-mul-le_self x p))

-- a task's demand never falls
demand-rises : (b : SporadicTask) → IsConstrained b → (t u : ℕ) → t ≤ u → demand_of b t ≤ demand_of b u
demand-rises b f t u l =
    omega (
      arith,
      demand_closed b f t,
      demand_closed b f u,
      mul-le-mul_right b.work (quotient_rises (t + (b.period - room_of b)) (u + (b.period - room_of b)) b.period
          (omega (arith, f.works, f.in_deadline, f.in_period)) (omega arith)),
    )

-- the demand bound never falls
pub dbf-rises : (tasks : List SporadicTask) → AreConstrained tasks → (t u : ℕ) → t ≤ u → dbf tasks t ≤ dbf tasks u
dbf-rises tasks fits t u l = omega (
  arith,
  sum_by-places (λ b. demand_of b t) default_task tasks,
  sum_by-places (λ b. demand_of b u) default_task tasks,
  sum_below-le (λ i. demand_of (task_at tasks i) t) (λ i. demand_of (task_at tasks i) u) (length tasks)
      (λ i m. demand-rises (task_at tasks i) (fits i m) t u l),
)

-- dbf is 0 at 0
pub dbf_start : (tasks : List SporadicTask) → AreConstrained tasks → dbf tasks 0 ≡ 0
dbf_start tasks fits =
    sum_by-places (λ b. demand_of b 0) default_task tasks
    ∙ (sum_below-same (λ i. demand_of (task_at tasks i) 0) (λ i. 0) (length tasks)
    (λ i l. cond-false {A = ℕ} (leb (task_at tasks i).deadline (0 + (task_at tasks i).jitter))
    (((0 + (task_at tasks i).jitter - (task_at tasks i).deadline) / (task_at tasks i).period + 1)
    * (task_at tasks i).work) 0 (lt-leb _ _ (omega (arith, (fits i l).works, (fits i l).in_deadline))))
    ∙ sum_below-none (length tasks))
