-- What is short over a lawful supply defeats it: the synchronous release over the worst pattern
-- misses.
use Rattle.std.proofs.Common.{◌≡◌, ℕ, ◌<◌, ◌≤◌, Bool, List, length, Some, sym, subst}
use Rattle.slot_model.specs.declared.sched.Sched.{Sched}
use Rattle.slot_model.specs.declared.sched.Sched.TheVariants.{Edf, Rm, Dm, Listed}
use Rattle.slot_model.specs.declared.sched.Short.{Short}
use Rattle.slot_model.specs.declared.sched.Short.TheVariants.{At, Task}
use Rattle.slot_model.specs.Task.{SporadicTask, AreConstrained, room_of, task_at}
use Rattle.slot_model.specs.Supply.{GivesBudget, SupplyLaws, worst_slot}
use Rattle.slot_model.specs.Order.{before_of, ranks_above}
use Rattle.slot_model.specs.Bound.{sbf, IsShortfall, shows_by}
use Rattle.slot_model.specs.Miss.{MissesFromStart, MustMiss, WorstList}
use Rattle.slot_model.proofs.WorstPattern.{periodic_laws}
use Rattle.miss_witness.specs.Defeat.{IsShortWindow}
use Rattle.edf_test.proofs.Level.{edf_misses_from_start}
use Rattle.least_budget.proofs.Budgets.{gives_less, smaller_misses}
use Rattle.least_budget.proofs.LevelRuns.{short_misses}
use Rattle.fp_request.specs.Ranks.{ranks_is_rank}
use Rattle.fp_test.proofs.Witness.{short_misses_from_start}

pub shortfall_defeats : (sched : Sched) (tasks : List SporadicTask) → AreConstrained tasks
    → {bound : ℕ → ℕ} {amount cycle : ℕ} {pattern : ℕ → Bool} {start : ℕ} {Conforms : List Bool → Type 0}
    → SupplyLaws bound amount cycle pattern start Conforms
    → (short : Short) → IsShortfall sched tasks bound short
    → (slots : List Bool) → WorstList pattern start (shows_by tasks short) slots
    → Conforms slots × MissesFromStart pattern start (shows_by tasks short) (before_of sched tasks) tasks slots
shortfall_defeats Edf tasks fits {bound} {amount} {cycle} {pattern} {start} {Conforms} laws (At t) h slots worst = (
  laws.worst_conforms slots worst.follows,
  edf_misses_from_start bound amount cycle pattern start Conforms laws tasks fits t h.short slots worst,
)
shortfall_defeats Edf tasks fits laws (Task i) h slots worst = absurd h
shortfall_defeats Rm tasks fits laws (At t) h slots worst = absurd h
shortfall_defeats Rm tasks fits laws (Task i) h slots worst = (
  laws.worst_conforms slots worst.follows,
  short_misses_from_start (ranks_above Rm tasks) (ranks_is_rank Rm tasks) tasks fits laws i h.is_task h.short slots
      worst,
)
shortfall_defeats Dm tasks fits laws (At t) h slots worst = absurd h
shortfall_defeats Dm tasks fits laws (Task i) h slots worst = (
  laws.worst_conforms slots worst.follows,
  short_misses_from_start (ranks_above Dm tasks) (ranks_is_rank Dm tasks) tasks fits laws i h.is_task h.short slots
      worst,
)
shortfall_defeats Listed tasks fits laws (At t) h slots worst = absurd h
shortfall_defeats Listed tasks fits laws (Task i) h slots worst = (
  laws.worst_conforms slots worst.follows,
  short_misses_from_start (ranks_above Listed tasks) (ranks_is_rank Listed tasks) tasks fits laws i h.is_task h.short
      slots worst,
)

-- so it is of a budget
pub budget_defeated : (sched : Sched) (tasks : List SporadicTask) → AreConstrained tasks → (period budget : ℕ)
    → 1 ≤ period → budget ≤ period → (short : Short) (span : ℕ) → shows_by tasks short ≡ span
    → IsShortfall sched tasks (sbf period budget) short
    → (slots : List Bool) → WorstList (worst_slot period budget) budget span slots
    → GivesBudget period budget slots
    × MissesFromStart (worst_slot period budget) budget span (before_of sched tasks) tasks slots
budget_defeated sched tasks fits period budget l m short span e h =
    subst (λ (z : ℕ). (slots : List Bool) → WorstList (worst_slot period budget) budget z slots
    → GivesBudget period budget slots
    × MissesFromStart (worst_slot period budget) budget z (before_of sched tasks) tasks slots) e
    (shortfall_defeats sched tasks fits (periodic_laws period budget l m) short h)

-- and each smaller budget must miss
pub smaller_must_miss : (sched : Sched) (tasks : List SporadicTask) → AreConstrained tasks → (period budget : ℕ)
    → 1 ≤ period → budget ≤ period → (short : Short) → IsShortfall sched tasks (sbf period budget) short
    → (less : ℕ) → less ≤ budget → MustMiss (GivesBudget period less) (before_of sched tasks) tasks
smaller_must_miss sched tasks fits period budget l m short h less n =
    smaller_misses (before_of sched tasks) tasks (GivesBudget period) budget less
    (λ slots g. gives_less period budget less slots n g)
    (short_misses sched tasks fits (periodic_laws period budget l m) short h)

-- a task that is short first is one of the tasks
short_task_inside : (sched : Sched) (tasks : List SporadicTask) (bound : ℕ → ℕ) (i : ℕ)
    → IsShortfall sched tasks bound (Task i) → i < length tasks
short_task_inside Edf tasks bound i h = absurd h
short_task_inside Rm tasks bound i h = h.is_task
short_task_inside Dm tasks bound i h = h.is_task
short_task_inside Listed tasks bound i h = h.is_task

pub task_of_short : (sched : Sched) (tasks : List SporadicTask) (bound : ℕ → ℕ) (short : Short) (i : ℕ)
    → short ≡ Task i → IsShortfall sched tasks bound short
    → IsShortfall sched tasks bound (Task i) × (i < length tasks)
task_of_short sched tasks bound short i e h =
    let late : IsShortfall sched tasks bound (Task i) = subst (IsShortfall sched tasks bound) e h in
    (late, short_task_inside sched tasks bound i late)

-- and its window is what its deadline leaves past its jitter
pub short_task_window : (sched : Sched) (tasks : List SporadicTask) (bound : ℕ → ℕ) (i span : ℕ)
    → room_of (task_at tasks i) ≡ span → IsShortfall sched tasks bound (Task i)
    → IsShortWindow sched tasks bound span (Some i)
short_task_window Edf tasks bound i span e h = absurd h
short_task_window Rm tasks bound i span e h = (h, sym e)
short_task_window Dm tasks bound i span e h = (h, sym e)
short_task_window Listed tasks bound i span e h = (h, sym e)
