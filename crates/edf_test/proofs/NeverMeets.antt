-- A demand whose rate is at most the supply's, and that begins less than a slot behind it, never
-- catches up.
use Rattle.std.proofs.Common.{◌≡◌, ℕ, zero, suc, ◌+◌, ◌*◌, ◌-◌, ◌/◌, ◌%◌, ◌^◌, ◌<◌, ◌≤◌, List, [], ◌∷◌, length, ◌∙◌, ap, arith, inl, inr, mul-le-mul_left, mul-le-mul_right, div-mul-le_self}
use Rattle.std.specs.Int.{◌∣◌}
use Rattle.std.specs.List.{All}
use Rattle.std.proofs.lemmas.Nat.Gcd.{dvd_of_mod-eq-zero, mod-eq-zero_of_dvd}
use Rattle.std.proofs.lemmas.Bool.{cases_lt}
use Rattle.std.proofs.lemmas.Nat.{mul-le}
use Rattle.std.proofs.lemmas.List.Sums.{sum_by-cons}
use Rattle.std.proofs.Math.Nat.{add-mul-div_right, div-eq_of_lt}
use Rattle.slot_model.specs.declared.task.Task.{Task}
use Rattle.slot_model.specs.Task.{SporadicTask, sporadic_tasks, IsConstrained, AreConstrained, room_of, task_at}
use Rattle.slot_model.specs.Bound.{demand_of, dbf}
use Rattle.slot_model.proofs.Demand.{demand_closed}
use Rattle.edf_demand.specs.Cyclic.{RisesByCycle}
use Rattle.edf_demand.proofs.Multiples.{quotient_of}
use Rattle.edf_test.specs.inner.Rates.{task_ahead, ahead_over, behind_over, NeverMeets}
use Rattle.edf_test.proofs.Lines.{bound_above}

-- over a multiple of its period a task asks for its work once a period
demand_over : (b : SporadicTask) → IsConstrained b → (m : ℕ) → b.period ∣ m → demand_of b m ≡ m / b.period * b.work
demand_over b f m divides =
    let early : ℕ = b.period - room_of b in
    let e : m + early ≡ early + (m / b.period) * b.period
    = omega (arith, quotient_of b.period m (omega (arith, f.works, f.in_deadline, f.in_period)) divides) in
    let q : (m + early) / b.period ≡ early / b.period + m / b.period
    = ap (λ (z : ℕ). z / b.period) e
    ∙ add-mul-div_right early (m / b.period) (omega (arith, f.works, f.in_deadline, f.in_period)) in
    let none : early / b.period ≡ 0
    = div-eq_of_lt {n = early} {m = b.period} (omega (arith, f.works, f.in_deadline, f.in_period)) in
    let whole : (m + early) / b.period ≡ m / b.period = omega (arith, q, none) in
    demand_closed b f m ∙ ap (λ (z : ℕ). z * b.work) whole

-- so its demand stays below the line through that
task_below : (b : SporadicTask) → IsConstrained b → (m t : ℕ) → b.period ∣ m
    → demand_of b t * m ≤ demand_of b m * t + task_ahead m b
task_below b f m t divides =
    let early : ℕ = b.period - room_of b in
    let k : ℕ = m / b.period in
    let q : ℕ = (t + early) / b.period in
    let whole : q * b.period ≤ t + early = div-mul-le_self (t + early) b.period in
    let multiple : m ≡ k * b.period
    = quotient_of b.period m (omega (arith, f.works, f.in_deadline, f.in_period)) divides in
    let scaled : (k * b.work) * (q * b.period) ≤ (k * b.work) * (t + early) = mul-le-mul_left (k * b.work) whole in
    let left : demand_of b t * m ≡ (q * b.work) * (k * b.period)
    = ap (λ (z : ℕ). z * m) (demand_closed b f t) ∙ ap (λ (z : ℕ). (q * b.work) * z) multiple in
    let right : demand_of b m * t ≡ (k * b.work) * t = ap (λ (z : ℕ). z * t) (demand_over b f m divides) in
    omega (arith, left, right, scaled)

all_below : (tasks : List SporadicTask) → AreConstrained tasks → (m t : ℕ)
    → ((i : ℕ) → i < length tasks → (task_at tasks i).period ∣ m)
    → dbf tasks t * m ≤ dbf tasks m * t + ahead_over tasks m
all_below [] fits m t divides = omega arith
all_below (x ∷ xs) fits m t divides =
    omega (
      arith,
      all_below xs (λ i l. fits (suc i) (omega arith)) m t (λ i l. divides (suc i) (omega arith)),
      task_below x (fits 0 (omega arith)) m t (divides 0 (omega arith)),
      ap (λ (z : ℕ). z * m) (sum_by-cons (λ b. demand_of b t) x xs),
      ap (λ (z : ℕ). z * t) (sum_by-cons (λ b. demand_of b m) x xs),
      sum_by-cons (task_ahead m) x xs,
    )

-- less than one time more is no more
no_more : (x y m : ℕ) → x * m < y * m + m → x ≤ y
no_more x y m l = elim (cases_lt y x) [
  | inr q ↦ q
  | inl q ↦
      let more : (y + 1) * m ≤ x * m = mul-le-mul_right m (let z : y + 1 ≤ x = omega arith in z) in
      absurd (omega (arith, more))
]

-- past the first cycle no window asks for more than the bound
pub never_catches_up : (tasks : List SporadicTask) → AreConstrained tasks → (bound : ℕ → ℕ) (amount cycle m : ℕ)
    → RisesByCycle bound amount cycle → ((t : ℕ) → bound t ≤ bound (suc t)) → ((t : ℕ) → bound (suc t) ≤ suc (bound t))
    → 1 ≤ cycle → amount ≤ cycle
    → NeverMeets tasks bound amount cycle m → (t : ℕ) → cycle ≤ t → dbf tasks t ≤ bound t
never_catches_up tasks fits bound amount cycle m by rises slow some in_cycle never t later =
    let n : ℕ = m / cycle in
    let behind : ℕ = behind_over bound amount cycle in
    let multiple : m ≡ n * cycle = quotient_of cycle m some never.common.of_cycle in
    let below : dbf tasks t * m ≤ dbf tasks m * t + ahead_over tasks m
    = all_below tasks fits m t never.common.of_periods in
    let slower : dbf tasks m * t ≤ (n * amount) * t = mul-le-mul_right t never.no_faster in
    let above : amount * t ≤ bound t * cycle + behind
    = bound_above bound amount cycle cycle amount behind by rises slow some in_cycle in_cycle (omega arith)
    (omega arith) t later in
    let scaled : n * (amount * t) ≤ n * (bound t * cycle + behind) = mul-le-mul_left n above in
    let whole : bound t * m ≡ bound t * (n * cycle) = ap (λ (z : ℕ). bound t * z) multiple in
    no_more (dbf tasks t) (bound t) m (omega (arith, below, slower, scaled, whole, never.close))

-- the products of 64 bits fit 128
pub product_fits : (x y : ℕ) → x ≤ y → y < 2 ^ 64 → x * y < 2 ^ 128
product_fits x y l m = omega (arith, mul-le x y (2 ^ 64 - 1) (2 ^ 64 - 1) (omega arith) (omega arith))

-- and so does what tells how far a supply falls behind
pub latest_fits : (amount cycle : ℕ) → amount ≤ cycle → cycle < 2 ^ 64 → amount * (2 * cycle - amount) < 2 ^ 128
latest_fits amount cycle in_cycle small =
    let rest : ℕ = cycle - amount in
    let parts : cycle ≡ amount + rest = omega arith in
    let left : amount * (2 * cycle - amount) ≡ amount * (amount + 2 * rest)
    = ap (λ (z : ℕ). amount * z) (let e : 2 * cycle - amount ≡ amount + 2 * rest = omega arith in e) in
    let square : cycle * cycle ≡ (amount + rest) * (amount + rest) = ap (λ (z : ℕ). z * z) parts in
    omega (arith, left, square, product_fits cycle cycle (omega arith) small)

-- all periods divide m, as the code reads it
pub all_divide : (tasks : List Task) (m : ℕ) → All (λ task. m % task.period ≡ 0) tasks → (i : ℕ)
    → i < length (sporadic_tasks tasks) → (task_at (sporadic_tasks tasks) i).period ∣ m
all_divide [] m all i l = absurd (omega arith)
all_divide (x ∷ xs) m all zero l = dvd_of_mod-eq-zero x.period {n = m} (all 0 x (omega arith))
all_divide (x ∷ xs) m all (suc i) l = all_divide xs m (λ k e q. all (suc k) e (omega arith)) i (omega arith)

pub divide_all : (tasks : List Task) (m : ℕ)
    → ((i : ℕ) → i < length (sporadic_tasks tasks) → (task_at (sporadic_tasks tasks) i).period ∣ m)
    → All (λ task. m % task.period ≡ 0) tasks
divide_all [] m each k e l = absurd (omega arith)
divide_all (x ∷ xs) m each zero e l = mod-eq-zero_of_dvd x.period (each 0 (omega arith))
divide_all (x ∷ xs) m each (suc k) e l = divide_all xs m (λ i q. each (suc i) (omega arith)) k e (omega arith)

-- where a supply falls behind by a whole slot or more, the lines are not close
pub far_apart : (m cycle behind : ℕ) → 1 ≤ cycle → cycle ∣ m → cycle ≤ behind → m ≤ m / cycle * behind
far_apart m cycle behind some divides l = omega (arith, quotient_of cycle m some divides, mul-le-mul_left (m / cycle) l)
