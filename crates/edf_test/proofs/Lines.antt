-- Lines above the demand bound and below a supply's bound, and where they cross.
use Rattle.std.proofs.Common.{◌≡◌, ◌^◌, ℕ, suc, ◌+◌, ◌*◌, ◌-◌, ◌/◌, ◌%◌, ◌<◌, ◌≤◌, Bool, List, [], ◌∷◌, ◌++◌, sym, ◌∙◌, ap, arith, subst, inl, inr, mul-le-mul_left, mul-le-mul_right, div-mul-le_self, sum_by}
use Rattle.std.proofs.Math.Nat.{le_of_mul-le-mul_right}
use Rattle.std.proofs.lemmas.Nat.{mul-le}
use Rattle.std.proofs.lemmas.List.{map-append}
use Rattle.std.proofs.lemmas.List.Sums.{sum_by-append, sum_by-cons}
use Rattle.edf_test.specs.Rates.{rate_up, asked_rate, asked_ahead}
use Rattle.std.proofs.lemmas.Bool.{cases_lt}
use Rattle.slot_model.specs.declared.task.Task.{Task}
use Rattle.slot_model.specs.Task.{SporadicTask, sporadic_task, sporadic_tasks, room_of, IsConstrained}
use Rattle.slot_model.specs.Bound.{demand_of, dbf}
use Rattle.slot_model.specs.Supply.{SupplyLaws}
use Rattle.slot_model.proofs.Constrained.{constrained}
use Rattle.edf_demand.specs.Cyclic.{RisesByCycle}
use Rattle.edf_demand.proofs.Periodic.{bound_cycles}
use Rattle.slot_model.proofs.Demand.{demand_closed}
use Rattle.slot_model.proofs.Rising.{never_falls_far, rises_at_most}
use Rattle.edf_test.proofs.Tasks.{dbf-push}

abbrev pub IsAbove : List SporadicTask → ℕ → ℕ → Type 0
IsAbove tasks slope offset = (t : ℕ) → dbf tasks t * 2 ^ 60 ≤ slope * t + offset

-- a task's demand is below its rate times the window and the part of the period past its room
demand_below : (b : SporadicTask) → IsConstrained b → (rate t : ℕ) → b.work * 2 ^ 60 ≤ rate * b.period
    → demand_of b t * 2 ^ 60 ≤ rate * t + rate * (b.period - room_of b)
demand_below b f rate t l =
    let q : ℕ = (t + (b.period - room_of b)) / b.period in
    let per_period : q * (b.work * 2 ^ 60) ≤ q * (rate * b.period) = mul-le-mul_left q l in
    let whole : rate * (q * b.period) ≤ rate * (t + (b.period - room_of b))
    = mul-le-mul_left rate (div-mul-le_self (t + (b.period - room_of b)) b.period) in
    let closed : demand_of b t ≡ q * b.work = demand_closed b f t in
    omega (arith, closed, per_period, whole)

-- one task more
pub above_more : (tasks : List Task) (task : Task) (slope offset rate : ℕ) → IsAbove (sporadic_tasks tasks) slope offset
    → task.work * 2 ^ 60 ≤ rate * task.period
    → IsAbove (sporadic_tasks (tasks ++ task ∷ [])) (slope + rate)
    (offset + rate * (task.period - room_of (sporadic_task task)))
above_more tasks task slope offset rate above l t =
    omega (arith, above t, demand_below (sporadic_task task) (constrained task) rate t l, dbf-push tasks task t)

-- a window past the first cycle, as some cycles, the first one and a part of one
into_cycles : (t cycle : ℕ) → 1 ≤ cycle → cycle ≤ t → (n : ℕ) × (r : ℕ) × (r < cycle) × (t ≡ (cycle + r) + n * cycle)
into_cycles t cycle l m = ((t - cycle) / cycle, (t - cycle) % cycle, omega arith, omega arith)

-- in one cycle past the first: flat for as long as can be, and then a slot after the other;
-- a slot counts as `one`
in_one : (bound : ℕ → ℕ) (amount cycle one slope offset r : ℕ) → RisesByCycle bound amount cycle
    → ((t : ℕ) → bound t ≤ bound (suc t)) → ((t : ℕ) → bound (suc t) ≤ suc (bound t)) → amount ≤ cycle → slope ≤ one
    → slope * (2 * cycle - amount) ≤ bound cycle * one + offset → r < cycle
    → slope * (cycle + r) ≤ bound (cycle + r) * one + offset
in_one bound amount cycle one slope offset r by rises slow in_cycle at_most_one latest lr =
    elim (cases_lt cycle (r + amount)) [
      | inr flat ↦
          let early : cycle + r ≤ 2 * cycle - amount = omega arith in
          omega (
            arith,
            latest,
            mul-le-mul_left slope early,
            mul-le-mul_right one (never_falls_far bound rises cycle (cycle + r) (omega arith)),
          )
      | inl late ↦
          let k : ℕ = (r + amount) - cycle in
          let e : cycle + r ≡ (2 * cycle - amount) + k = omega arith in
          let split : slope * (cycle + r) ≡ slope * (2 * cycle - amount) + slope * k
          = ap (λ (z : ℕ). slope * z) e ∙ omega arith in
          let slots : slope * k ≤ one * k = mul-le-mul_right k at_most_one in
          let rest : bound ((cycle + r) + (cycle - r)) ≤ bound (cycle + r) + (cycle - r)
          = rises_at_most bound slow (cycle + r) (cycle - r) in
          let twice : bound ((cycle + r) + (cycle - r)) ≡ bound (cycle + cycle)
          = ap bound (let z : (cycle + r) + (cycle - r) ≡ cycle + cycle = omega arith in z) in
          let more : bound (cycle + cycle) ≡ bound cycle + amount = by.each_cycle cycle (omega arith) in
          let given : bound cycle + k ≤ bound (cycle + r) = omega (arith, rest, twice, more) in
          let parts : (bound cycle + k) * one ≤ bound (cycle + r) * one = mul-le-mul_right one given in
          omega (arith, latest, split, slots, parts)
    ]

-- past the first cycle a supply's bound, where it rises as late as can be in each
pub bound_above : (bound : ℕ → ℕ) (amount cycle one slope offset : ℕ) → RisesByCycle bound amount cycle
    → ((t : ℕ) → bound t ≤ bound (suc t)) → ((t : ℕ) → bound (suc t) ≤ suc (bound t)) → 1 ≤ cycle → amount ≤ cycle
    → slope ≤ one → slope * cycle ≤ amount * one
    → slope * (2 * cycle - amount) ≤ bound cycle * one + offset → (t : ℕ) → cycle ≤ t
    → slope * t ≤ bound t * one + offset
bound_above bound amount cycle one slope offset by rises slow some in_cycle at_most_one rate latest t later =
    let (n, r, lr, e) = into_cycles t cycle some later in
    let cycles : bound ((cycle + r) + n * cycle) ≡ bound (cycle + r) + n * amount
    = bound_cycles bound cycle amount by (cycle + r) n (omega arith) in
    let same : bound t ≡ bound (cycle + r) + n * amount = ap bound e ∙ cycles in
    let parts : bound t * one ≡ bound (cycle + r) * one + n * (amount * one)
    = ap (λ (z : ℕ). z * one) same ∙ omega arith in
    let whole : n * (slope * cycle) ≤ n * (amount * one) = mul-le-mul_left n rate in
    let split : slope * t ≡ slope * (cycle + r) + n * (slope * cycle) = ap (λ (z : ℕ). slope * z) e ∙ omega arith in
    omega (
      arith,
      parts,
      whole,
      split,
      in_one bound amount cycle one slope offset r by rises slow in_cycle at_most_one latest lr,
    )

-- past the point where the lines cross the demand is below the bound
pub past_crossing : (asked given slope offset rate behind last t : ℕ) → asked * 2 ^ 60 ≤ slope * t + offset
    → rate * t ≤ given * 2 ^ 60 + behind → slope < rate → last ≡ (offset + behind) / (rate - slope) → last < t
    → asked ≤ given
past_crossing asked given slope offset rate behind last t above below l is past =
    let k : ℕ = rate - slope in
    let some : 1 ≤ k = omega arith in
    let over : offset + behind < ((offset + behind) / k + 1) * k = omega arith in
    let further : (offset + behind) / k + 1 ≤ t = omega (arith, is) in
    let product : ((offset + behind) / k + 1) * k ≤ t * k = mul-le-mul_right k further in
    let whole : rate * t ≡ slope * t + t * k
    = ap (λ (z : ℕ). z * t) (let e : rate ≡ slope + k = omega arith in e) ∙ omega arith in
    omega (arith, above, below, over, product, whole)

-- no more slots a cycle than the cycle has
pub amount_within : {bound : ℕ → ℕ} {amount cycle : ℕ} {pattern : ℕ → Bool} {start : ℕ} {Conforms : List Bool → Type 0}
    → SupplyLaws bound amount cycle pattern start Conforms → amount ≤ cycle
amount_within {bound} {amount} {cycle} laws =
    omega (arith, laws.each_cycle cycle (omega arith), rises_at_most bound laws.rises_by_one cycle cycle)

-- what a cycle adds past the first one, as the code reads it
pub amount_read : (bound : ℕ → ℕ) (amount cycle read two one : ℕ) → RisesByCycle bound amount cycle
    → ((t : ℕ) → bound (suc t) ≤ suc (bound t)) → read ≡ cycle → two ≡ bound (2 * read) → one ≡ bound read
    → (two - one ≡ amount) × (two - one ≤ cycle) × (one ≤ two)
amount_read bound amount cycle read two one by slow r e f =
    let twice : bound (2 * read) ≡ bound (cycle + cycle)
    = ap bound (let z : 2 * read ≡ cycle + cycle = omega (arith, r) in z) in
    let once : bound read ≡ bound cycle = ap bound r in
    let more : bound (cycle + cycle) ≡ bound cycle + amount = by.each_cycle cycle (omega arith) in (
      omega (arith, e, f, twice, once, more),
      omega (arith, e, f, twice, once, rises_at_most bound slow cycle cycle),
      omega (arith, e, f, twice, once, more),
    )

-- a supply's cycle and amount as the code reads them
pub rises_by : (bound : ℕ → ℕ) (amount cycle read_amount read_cycle : ℕ) → RisesByCycle bound amount cycle
    → read_amount ≡ amount → read_cycle ≡ cycle → RisesByCycle bound read_amount read_cycle
rises_by bound amount cycle read_amount read_cycle by e f =
    subst (λ (z : ℕ). RisesByCycle bound read_amount z) (sym f)
    (subst (λ (z : ℕ). RisesByCycle bound z cycle) (sym e) by)

-- a part of a cycle is at most the whole
pub part_small : (amount cycle : ℕ) → 1 ≤ cycle → amount ≤ cycle → amount * 2 ^ 60 / cycle ≤ 2 ^ 60
part_small amount cycle some l =
    le_of_mul-le-mul_right {m = amount * 2 ^ 60 / cycle} {n = 2 ^ 60} {k = cycle}
    (omega (arith, div-mul-le_self (amount * 2 ^ 60) cycle)) some

pub latest_small : (slope cycle amount : ℕ) → slope ≤ 2 ^ 60 → cycle < 2 ^ 64 → slope * (2 * cycle - amount) ≤ 2 ^ 125
latest_small slope cycle amount l m =
    let most : 2 * cycle - amount ≤ 2 ^ 65 = omega arith in
    omega (arith, mul-le slope (2 * cycle - amount) (2 ^ 60) (2 ^ 65) l most)

-- the rate of one task more
pub rate-push : (tasks : List Task) (task : Task)
    → asked_rate (sporadic_tasks (tasks ++ task ∷ []))
    ≡ asked_rate (sporadic_tasks tasks) + rate_up (sporadic_task task)
rate-push tasks task =
    ap (λ xs. sum_by rate_up xs) (map-append sporadic_task tasks (task ∷ []))
    ∙ (sum_by-append rate_up (sporadic_tasks tasks) (sporadic_task task ∷ [])
    ∙ omega (arith, sum_by-cons rate_up (sporadic_task task) []))

-- and what it may be ahead of its rate
pub ahead-push : (tasks : List Task) (task : Task)
    → asked_ahead (sporadic_tasks (tasks ++ task ∷ []))
    ≡ asked_ahead (sporadic_tasks tasks)
    + rate_up (sporadic_task task) * (task.period - room_of (sporadic_task task))
ahead-push tasks task =
    ap (λ xs. sum_by ahead xs) (map-append sporadic_task tasks (task ∷ []))
    ∙ (sum_by-append ahead (sporadic_tasks tasks) (sporadic_task task ∷ [])
    ∙ omega (arith, sum_by-cons ahead (sporadic_task task) []))
  where
    ahead : SporadicTask → ℕ
    ahead b = rate_up b * (b.period - room_of b)

pub ahead_small : (rate period room : ℕ) → rate ≤ 2 ^ 60 → period ≤ 1000000000 → rate * (period - room) ≤ 2 ^ 90
ahead_small rate period room l m =
    let most : period - room ≤ 2 ^ 30 = omega arith in
    omega (arith, mul-le rate (period - room) (2 ^ 60) (2 ^ 30) l most)
