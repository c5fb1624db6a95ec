-- What is short keeps a level from passing, and what a test finds short is short.
use Rattle.std.proofs.Common.{◌≡◌, ◌≢◌, ℕ, ◌<◌, List, length, arith, subst}
use Rattle.slot_model.specs.declared.sched.Sched.{Sched}
use Rattle.slot_model.specs.declared.sched.Sched.TheVariants.{Edf, Rm, Dm, Listed}
use Rattle.slot_model.specs.declared.sched.Short.{Short}
use Rattle.slot_model.specs.declared.sched.Short.TheVariants.{At, Task}
use Rattle.slot_model.specs.Task.{SporadicTask}
use Rattle.slot_model.specs.Order.{ranks_above}
use Rattle.slot_model.specs.Bound.{IsShortTask, Passes, IsShortfall}
use Rattle.slot_model.proofs.Budgets.{hits_of}
use Rattle.least_budget.specs.declared.answers.Tested.{Tested}
use Rattle.least_budget.specs.declared.answers.Tested.TheVariants.{Short as FirstShort}
use Rattle.least_budget.specs.Answers.{IsShort, IsTested}

-- a task without a hit
pub short_task_fails : (sched : Sched) (tasks : List SporadicTask) (bound : ℕ → ℕ) (i : ℕ) → sched ≢ Edf
    → i < length tasks → IsShortTask (ranks_above sched tasks) tasks bound i → Passes sched tasks bound → ⊥
short_task_fails sched tasks bound i fixed l short passes =
    let (t, hit) = hits_of sched fixed tasks bound passes i l in
    omega (arith, hit.enough, short t hit.some_slots hit.in_deadline)

pub short_fails : (sched : Sched) (tasks : List SporadicTask) (bound : ℕ → ℕ) (short : Short)
    → IsShort sched tasks bound short → Passes sched tasks bound → ⊥
short_fails Edf tasks bound (At t) h fits = omega (arith, h.1, fits t h.0)
short_fails Edf tasks bound (Task i) h fits = h
short_fails Rm tasks bound (At t) h passes = h
short_fails Rm tasks bound (Task i) h passes = short_task_fails Rm tasks bound i (λ e. absurd (cc)) h.0 h.1 passes
short_fails Dm tasks bound (At t) h passes = h
short_fails Dm tasks bound (Task i) h passes = short_task_fails Dm tasks bound i (λ e. absurd (cc)) h.0 h.1 passes
short_fails Listed tasks bound (At t) h passes = h
short_fails Listed tasks bound (Task i) h passes =
    short_task_fails Listed tasks bound i (λ e. absurd (cc)) h.0 h.1 passes

pub shortfall_is_short : (sched : Sched) (tasks : List SporadicTask) (bound : ℕ → ℕ) (short : Short)
    → IsShortfall sched tasks bound short → IsShort sched tasks bound short
shortfall_is_short Edf tasks bound (At t) h = (h.some_slots, h.short)
shortfall_is_short Edf tasks bound (Task i) h = h
shortfall_is_short Rm tasks bound (At t) h = h
shortfall_is_short Rm tasks bound (Task i) h = (h.is_task, h.short)
shortfall_is_short Dm tasks bound (At t) h = h
shortfall_is_short Dm tasks bound (Task i) h = (h.is_task, h.short)
shortfall_is_short Listed tasks bound (At t) h = h
shortfall_is_short Listed tasks bound (Task i) h = (h.is_task, h.short)

pub tested_short : (sched : Sched) (tasks : List SporadicTask) (bound : ℕ → ℕ) (cycle : ℕ) (told : Tested)
    (short : Short) → IsTested sched tasks bound cycle told → told ≡ FirstShort short → IsShort sched tasks bound short
tested_short sched tasks bound cycle told short tested found =
    shortfall_is_short sched tasks bound short (subst (IsTested sched tasks bound cycle) found tested).1
