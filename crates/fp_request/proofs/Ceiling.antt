-- A request by a quotient that is rounded up.
use Rattle.std.proofs.Common.{◌≡◌, ℕ, ◌+◌, ◌-◌, ◌*◌, ◌/◌, ◌%◌, ◌≤◌, arith, sym, ap}
use Rattle.std.specs.Int.{div_ceil}
use Rattle.std.proofs.Math.Nat.{div-eq_of_lt-le, add-mul-div_right}
use Rattle.std.proofs.lemmas.Grind.{div_ceil_times}
use Rattle.slot_model.specs.Task.{SporadicTask}
use Rattle.slot_model.specs.Bound.{request_of}

-- the quotient that the request bound has is the one rounded up
pub div_ceil-is : (t p : ℕ) → 1 ≤ p → (t + (p - 1)) / p ≡ div_ceil t p
div_ceil-is t p l =
    let b = div_ceil_times t p l in
    div-eq_of_lt-le p (omega (arith, b.1)) (omega (arith, b.0))

-- whole periods apart, so that no sum passes the quotient
pub arrivals-is : (t p j : ℕ) → 1 ≤ p → (t + j + (p - 1)) / p ≡ t / p + div_ceil (t % p + j) p
arrivals-is t p j l =
    let e : t + j + (p - 1) ≡ (t % p + j + (p - 1)) + (t / p) * p = omega arith in
    omega
    (arith, ap (λ (z : ℕ). z / p) e, add-mul-div_right (t % p + j + (p - 1)) (t / p) l, div_ceil-is (t % p + j) p l)

-- so a task's request is that quotient times its work
pub request_of-is : (task : SporadicTask) (t q : ℕ) → q ≡ (t + task.jitter + (task.period - 1)) / task.period
    → request_of task t ≡ q * task.work
request_of-is task t q e = ap (λ (z : ℕ). z * task.work) (sym e)
