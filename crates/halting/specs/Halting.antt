-- Guests that halt where they have nothing to do, and what they keep.
use Rattle.std.specs.Prelude.{◌≡◌, ℕ, ◌+◌, ◌<◌, ◌≤◌, Bool, true, List, length, Option}
use Rattle.slot_model.specs.declared.job.Job.{Job}
use Rattle.slot_model.specs.Task.{SporadicTask, job_at}
use Rattle.slot_model.specs.Supply.{GivesBudget}
use Rattle.slot_model.specs.Release.{LegalRelease}
use Rattle.slot_model.specs.Run.{Level, service, Pending, PermittedRun}
use Rattle.slot_model.specs.Miss.{Lost, NoJobLost, TaskInTime}
use Rattle.halting.specs.Stolen.{Spares, moments_from}

-- A run of the level of a VCPU, a guest or servers, at the moments below n at which the VCPU has
-- its core. The VCPU starts at f, and jobs and run count moments from there. The jobs are a legal
-- release. And the VCPU halts only where its level has nothing to do: no job is pending at a moment
-- at which it is blocked.
pub record HaltingRun (blocked runs : ℕ → Bool) (f n : ℕ) (level : Level)
    (before : Job → Job → Bool) (tasks : List SporadicTask) (jobs : List Job)
    (own_run : List (Option ℕ)) : Type 0 where
  pub legal : LegalRelease tasks jobs
  pub permitted : PermittedRun level before tasks jobs (moments_from runs f n) own_run
  pub halts : (x j : ℕ) → f + x < n → blocked (f + x) ≡ true →
      Pending level tasks jobs own_run j x → ⊥

-- something of each such run of a VCPU that is spared
abbrev pub WhereSpared : (period budget : ℕ) → (Job → Job → Bool) → List SporadicTask →
    (Level → List Job → List (Option ℕ) → Type 0) → Type 0
WhereSpared period budget before tasks Says =
    (blocked runs : ℕ → Bool) (f n : ℕ) (level : Level) (jobs : List Job)
    (own_run : List (Option ℕ)) → Spares blocked runs period budget f n →
    HaltingRun blocked runs f n level before tasks jobs own_run → Says level jobs own_run

-- it is a run over a supply that gives the budget in each period
pub record IsAdmittedRun (period budget : ℕ) (before : Job → Job → Bool)
    (tasks : List SporadicTask) (level : Level) (jobs : List Job) (own_run : List (Option ℕ))
    : Type 0 where
  pub slots : List Bool
  pub gives : GivesBudget period budget slots
  pub permitted : PermittedRun level before tasks jobs slots own_run

abbrev pub RunsAsAdmitted : Type 0
RunsAsAdmitted =
    (period budget : ℕ) (before : Job → Job → Bool) (tasks : List SporadicTask) →
    WhereSpared period budget before tasks (IsAdmittedRun period budget before tasks)

-- no job of a run is lost, at any place
abbrev pub NoneLost : List SporadicTask → List Job → List (Option ℕ) → Type 0
NoneLost tasks jobs run = (j x : ℕ) → Lost tasks jobs run j x → ⊥

-- so it is where none is lost over such supplies
abbrev pub KeepsDeadlines : Type 0
KeepsDeadlines =
    (period budget : ℕ) (before : Job → Job → Bool) (tasks : List SporadicTask) →
    NoJobLost (GivesBudget period budget) before tasks →
    WhereSpared period budget before tasks (λ level. NoneLost tasks)

-- each job of task i has its work t moments after its release, where the run is that long
abbrev pub HasWorkWithin : List Job → List (Option ℕ) → (i t : ℕ) → Type 0
HasWorkWithin jobs run i t =
    (j : ℕ) → j < length jobs → (job_at jobs j).task ≡ i →
    (job_at jobs j).release + t ≤ length run →
    (job_at jobs j).work ≤ service run j ((job_at jobs j).release + t)

-- so it is of a task that is in time over such supplies
abbrev pub StaysInTime : Type 0
StaysInTime =
    (period budget : ℕ) (before : Job → Job → Bool) (tasks : List SporadicTask) (i t : ℕ) →
    TaskInTime (GivesBudget period budget) before tasks i t →
    WhereSpared period budget before tasks (λ level jobs own_run. HasWorkWithin jobs own_run i t)
