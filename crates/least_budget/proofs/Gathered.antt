-- What is said of a gathered level is said of what was gathered.
use Rattle.std.proofs.Common.{◌≡◌, ℕ, List, subst, sym}
use Rattle.slot_model.specs.declared.sched.Sched.{Sched}
use Rattle.slot_model.specs.declared.task.Task.{Task}
use Rattle.slot_model.specs.declared.sched.Short.{Short}
use Rattle.slot_model.specs.Task.{sporadic_tasks}
use Rattle.least_budget.specs.declared.answers.Tested.{Tested}
use Rattle.least_budget.specs.declared.answers.Tested.TheVariants.{Short as FirstShort}
use Rattle.least_budget.specs.declared.gathered_level.Level.{Level}
use Rattle.least_budget.specs.Answers.{IsShort, IsTested}
use Rattle.least_budget.specs.Levels.{sched_of, tasks_of}
use Rattle.least_budget.proofs.Shortfalls.{tested_short}

pub of_gathered : (P : Sched → List Task → Type 0) (level : Level) (sched : Sched) (tasks : List Task)
    → sched_of level ≡ sched → tasks_of level ≡ tasks → P (sched_of level) (tasks_of level) → P sched tasks
of_gathered P level sched tasks same_sched same_tasks said =
    subst (P sched) same_tasks (subst (λ (s : Sched). P s (tasks_of level)) same_sched said)

-- what a test of the level finds short is short of it
pub short_of_level : (level : Level) (bound : ℕ → ℕ) (cycle : ℕ) (told : Tested) (short : Short)
    → (tested : Level) → level ≡ tested
    → IsTested (sched_of tested) (sporadic_tasks (tasks_of tested)) bound cycle told → told ≡ FirstShort short
    → IsShort (sched_of level) (sporadic_tasks (tasks_of level)) bound short
short_of_level level bound cycle told short tested same said found =
    subst (λ (l : Level). IsShort (sched_of l) (sporadic_tasks (tasks_of l)) bound short) (sym same)
    (tested_short (sched_of tested) (sporadic_tasks (tasks_of tested)) bound cycle told short said found)
