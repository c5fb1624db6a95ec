-- What tasks ask for is at most the window for each.
use Rattle.std.proofs.Common.{◌≡◌, ℕ, zero, suc, sym, ◌+◌, ◌-◌, ◌*◌, ◌/◌, ◌≤◌, List, [], ◌∷◌, length, ◌∙◌, ap, arith, sum_by, take, drop, mul-le-mul_left, div-mul-le_self}
use Rattle.std.proofs.lemmas.List.{take-map, drop-map, take_rest}
use Rattle.std.proofs.lemmas.List.Sums.{sum_by-cons, sum_by-take-drop}
use Rattle.slot_model.specs.declared.task.Task.{Task}
use Rattle.slot_model.specs.Task.{sporadic_task, sporadic_tasks}
use Rattle.slot_model.specs.Bound.{demand_of, dbf}
use Rattle.slot_model.proofs.Constrained.{constrained}
use Rattle.slot_model.proofs.Demand.{demand_closed}

-- so many jobs of a period fall due in t slots, and each has its room there
jobs_small : (period room work t q : ℕ) → work ≤ room → room ≤ period → q * period ≤ t + (period - room) → q * work ≤ t
jobs_small period room work t zero in_room in_period jobs = omega arith
jobs_small period room work t (suc q) in_room in_period jobs =
    omega (arith, mul-le-mul_left (suc q) in_room, mul-le-mul_left q in_period)

pub demand_small : (task : Task) (t : ℕ) → demand_of (sporadic_task task) t ≤ t
demand_small task t =
    let room : ℕ = task.deadline - task.jitter in
    let q : ℕ = (t + (task.period - room)) / task.period in
    let most : q * task.work ≤ t
    = jobs_small task.period room task.work t q (omega (arith, task.in_deadline)) (omega (arith, task.in_period))
    (div-mul-le_self (t + (task.period - room)) task.period) in
    omega (arith, demand_closed (sporadic_task task) (constrained task) t, most)

pub dbf_small : (tasks : List Task) (t : ℕ) → dbf (sporadic_tasks tasks) t ≤ length tasks * t
dbf_small [] t = omega arith
dbf_small (task ∷ tasks) t =
    omega (
      arith,
      sum_by-cons (λ b. demand_of b t) (sporadic_task task) (sporadic_tasks tasks),
      demand_small task t,
      dbf_small tasks t,
    )

-- the first of the tasks and the rest
pub dbf_split : (tasks : List Task) (n t : ℕ)
    → dbf (sporadic_tasks tasks) t
    ≡ dbf (sporadic_tasks (take n tasks)) t + dbf (sporadic_tasks (take (length tasks - n) (drop n tasks))) t
dbf_split tasks n t =
    sym (sum_by-take-drop (λ b. demand_of b t) (sporadic_tasks tasks) n)
    ∙ (ap (λ xs. sum_by (λ b. demand_of b t) xs + sum_by (λ b. demand_of b t) (drop n (sporadic_tasks tasks)))
    (take-map sporadic_task n tasks)
    ∙ (ap (λ xs. dbf (sporadic_tasks (take n tasks)) t + sum_by (λ b. demand_of b t) xs)
    (drop-map sporadic_task n tasks)
    ∙ ap (λ xs. dbf (sporadic_tasks (take n tasks)) t + dbf (sporadic_tasks xs) t) (sym (take_rest tasks n))))
