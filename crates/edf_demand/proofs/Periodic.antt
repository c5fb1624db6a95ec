-- Where no point up to a common multiple of all periods and the supply's cycle, and one cycle more,
-- is short, none is.
use Rattle.std.proofs.Common.{◌≡◌, ℕ, zero, suc, ◌+◌, ◌*◌, ◌-◌, ◌/◌, ◌<◌, ◌≤◌, List, length, ◌∙◌, ap, arith, inl, inr}
use Rattle.std.proofs.lemmas.Bool.{cases_lt}
use Rattle.std.proofs.Math.Nat.{add-mul-div_right}
use Rattle.slot_model.specs.Slots.{sum_below}
use Rattle.slot_model.specs.Task.{AreConstrained, IsConstrained, default_task, room_of, task_at, SporadicTask}
use Rattle.slot_model.specs.Bound.{demand_of, dbf}
use Rattle.edf_demand.specs.Cyclic.{RisesByCycle}
use Rattle.slot_model.proofs.Sums.{sum_below-same, sum_below-add}
use Rattle.slot_model.proofs.Windows.{sum_by-places}
use Rattle.slot_model.proofs.Demand.{demand_closed, dbf_start}

-- over m periods more a task asks for m times its work
demand_more : (b : SporadicTask) → IsConstrained b → (t m : ℕ)
    → demand_of b (t + m * b.period) ≡ demand_of b t + m * b.work
demand_more b f t m =
    let e : (t + m * b.period) + (b.period - room_of b) ≡ (t + (b.period - room_of b)) + m * b.period = omega arith in
    let q : ((t + m * b.period) + (b.period - room_of b)) / b.period ≡ (t + (b.period - room_of b)) / b.period + m
    = ap (λ (z : ℕ). z / b.period) e
    ∙ add-mul-div_right (t + (b.period - room_of b)) m (omega (arith, f.works, f.in_deadline, f.in_period)) in
    omega (arith, demand_closed b f t, demand_closed b f (t + m * b.period), ap (λ (z : ℕ). z * b.work) q)

-- the rise of dbf over a common multiple of the periods
pub dbf_more : (tasks : List SporadicTask) → AreConstrained tasks → (times : ℕ → ℕ) (L t : ℕ)
    → ((i : ℕ) → i < length tasks → L ≡ times i * (task_at tasks i).period)
    → dbf tasks (t + L) ≡ dbf tasks t + sum_below (λ i. times i * (task_at tasks i).work) (length tasks)
dbf_more tasks fits times L t multiple =
    omega (
      arith,
      sum_by-places (λ b. demand_of b (t + L)) default_task tasks,
      sum_by-places (λ b. demand_of b t) default_task tasks,
      sum_below-same (λ i. demand_of (task_at tasks i) (t + L))
          (λ i. demand_of (task_at tasks i) t + times i * (task_at tasks i).work) (length tasks)
          (λ i l. ap (λ (z : ℕ). demand_of (task_at tasks i) (t + z)) (multiple i l)
          ∙ demand_more (task_at tasks i) (fits i l) t (times i)),
      sum_below-add (λ i. demand_of (task_at tasks i) t) (λ i. times i * (task_at tasks i).work) (length tasks),
    )

-- over n cycles more the bound rises n times
pub bound_cycles : (bound : ℕ → ℕ) (cycle amount : ℕ) → RisesByCycle bound amount cycle → (t n : ℕ) → cycle ≤ t
    → bound (t + n * cycle) ≡ bound t + n * amount
bound_cycles bound cycle amount b t zero l = omega (arith, ap bound (let e : t + 0 * cycle ≡ t = omega arith in e))
bound_cycles bound cycle amount b t (suc n) l =
    omega (
      arith,
      ap bound (let e : t + suc n * cycle ≡ (t + n * cycle) + cycle = omega arith in e),
      b.each_cycle (t + n * cycle) (omega arith),
      bound_cycles bound cycle amount b t n l,
    )

-- the finite horizon
pub no_short : (tasks : List SporadicTask) → AreConstrained tasks → (bound : ℕ → ℕ) (cycle amount : ℕ)
    → RisesByCycle bound amount cycle → (times : ℕ → ℕ) (n : ℕ) → 1 ≤ n * cycle
    → ((i : ℕ) → i < length tasks → n * cycle ≡ times i * (task_at tasks i).period)
    → ((t : ℕ) → 1 ≤ t → t ≤ n * cycle + cycle → dbf tasks t ≤ bound t)
    → (fuel t : ℕ) → t ≤ fuel → 1 ≤ t → dbf tasks t ≤ bound t
no_short tasks fits bound cycle amount b times n some multiple near zero t f l = absurd (omega arith)
no_short tasks fits bound cycle amount b times n some multiple near (suc fuel) t f l =
    elim (cases_lt (n * cycle + cycle) t) [
      | inr q ↦ near t l q
      | inl q ↦
          let e : (t - n * cycle) + n * cycle ≡ t = omega arith in
          omega (
            arith,
            ap (dbf tasks) e,
            ap bound e,
            dbf_more tasks fits times (n * cycle) (t - n * cycle) multiple,
            bound_cycles bound cycle amount b (t - n * cycle) n (omega arith),
            no_short tasks fits bound cycle amount b times n some multiple near fuel (t - n * cycle) (omega arith)
                (omega arith),
            dbf_more tasks fits times (n * cycle) 0 multiple,
            dbf_start tasks fits,
            ap (dbf tasks) (let z : 0 + n * cycle ≡ n * cycle = omega arith in z),
            near (n * cycle) some (omega arith),
            b.at_cycles n,
          )
    ]
