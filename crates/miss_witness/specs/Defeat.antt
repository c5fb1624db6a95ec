-- What defeats the next smaller budget of a leaf, and that it does.
use Rattle.std.specs.Prelude.{◌≡◌, ℕ, ◌+◌, ◌≤◌, Bool, List, Option, Some, None}
use Rattle.slot_model.specs.declared.sched.Sched.{Sched}
use Rattle.slot_model.specs.declared.sched.Sched.TheVariants.{Edf, Rm, Dm, Listed}
use Rattle.slot_model.specs.declared.job.Job.{Job}
use Rattle.slot_model.specs.Task.{SporadicTask, room_of, task_at, job_at}
use Rattle.slot_model.specs.Supply.{GivesBudget, worst_slot}
use Rattle.slot_model.specs.Order.{before_of, ranks_above}
use Rattle.slot_model.specs.Release.{LegalRelease, synchronous}
use Rattle.slot_model.specs.Bound.{sbf, IsFirstShortPoint, IsFirstShortTask}
use Rattle.slot_model.specs.Run.{guest, PermittedRun}
use Rattle.slot_model.specs.Miss.{Missed, WorstList, MissesFromStart, MustMiss}
use Rattle.miss_witness.specs.declared.defeat.Defeat.{Defeat}

-- the window that is short: up to the least short point under edf, else what the deadline of the
-- first task without a hit leaves past its jitter
abbrev pub IsShortTaskWindow : (ℕ → ℕ → Bool) → List SporadicTask → (ℕ → ℕ) → ℕ → Option ℕ → Type 0
IsShortTaskWindow above tasks bound span None = ⊥
IsShortTaskWindow above tasks bound span (Some i) =
    IsFirstShortTask above tasks bound i × (span ≡ room_of (task_at tasks i))

abbrev pub IsShortWindow : Sched → List SporadicTask → (ℕ → ℕ) → ℕ → Option ℕ → Type 0
IsShortWindow Edf tasks bound span None = IsFirstShortPoint tasks bound span
IsShortWindow Edf tasks bound span (Some i) = ⊥
IsShortWindow Rm tasks bound span task =
    IsShortTaskWindow (ranks_above Rm tasks) tasks bound span task
IsShortWindow Dm tasks bound span task =
    IsShortTaskWindow (ranks_above Dm tasks) tasks bound span task
IsShortWindow Listed tasks bound span task =
    IsShortTaskWindow (ranks_above Listed tasks) tasks bound span task

-- the defeat of the budget one below the least, whose worst pattern starts where its first budget
-- is spent
pub record IsDefeat (sched : Sched) (tasks : List SporadicTask) (period least : ℕ)
    (defeat : Defeat) : Type 0 where
  pub next_smaller : defeat.budget + 1 ≡ least
  pub at_start : defeat.start ≡ defeat.budget
  pub short : IsShortWindow sched tasks (sbf period defeat.budget) defeat.span defeat.task

-- The list of slots of a defeat: the worst pattern of its budget, up to the end of its window.
abbrev pub IsDefeatSupply : ℕ → Defeat → List Bool → Type 0
IsDefeatSupply period defeat =
    WorstList (worst_slot period defeat.budget) defeat.start defeat.span

-- in every permitted run of the synchronous release from `start` on the job of task i that is
-- released at `start` misses
abbrev pub TaskMissesFromStart : ℕ → ℕ → (Job → Job → Bool) → List SporadicTask → List Bool → ℕ →
    Type 0
TaskMissesFromStart start span before tasks slots i =
    let jobs = synchronous tasks start span in
    (run : List (Option ℕ)) → PermittedRun guest before tasks jobs slots run →
    (j : ℕ) × ((job_at jobs j).task ≡ i) × ((job_at jobs j).release ≡ start)
    × Missed tasks jobs run j

-- A defeat defeats its budget and each smaller one: its list of slots, which there is, gives each
-- of them in every period, the release of all tasks at its start is legal, and over that list a job
-- of it misses by the end of the window in every permitted run of the guest, of which there is at
-- least one. Where a task is named, the job of it that is released at the start does. So with each
-- of these budgets the guest must miss.
pub record Defeats (sched : Sched) (tasks : List SporadicTask) (period : ℕ) (defeat : Defeat)
    : Type 0 where
  pub some_supply : (slots : List Bool) × IsDefeatSupply period defeat slots
  pub gives : (slots : List Bool) → IsDefeatSupply period defeat slots →
      (budget : ℕ) → budget ≤ defeat.budget → GivesBudget period budget slots
  pub legal : LegalRelease tasks (synchronous tasks defeat.start defeat.span)
  pub misses : (slots : List Bool) → IsDefeatSupply period defeat slots →
      MissesFromStart (worst_slot period defeat.budget) defeat.start defeat.span
      (before_of sched tasks) tasks slots
  pub late_task : (slots : List Bool) → IsDefeatSupply period defeat slots →
      (i : ℕ) → defeat.task ≡ Some i →
      TaskMissesFromStart defeat.start defeat.span (before_of sched tasks) tasks slots i
  pub must_miss : (budget : ℕ) → budget ≤ defeat.budget →
      MustMiss (GivesBudget period budget) (before_of sched tasks) tasks
