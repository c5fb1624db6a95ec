-- What is said of a gathered level is said of what was gathered, and back.
use Rattle.std.proofs.Common.{◌≡◌, List, sym, subst}
use Rattle.slot_model.specs.declared.sched.Sched.{Sched}
use Rattle.slot_model.specs.declared.task.Task.{Task}
use Rattle.fp_request.specs.declared.ranked.RankedLevel.{RankedLevel}

pub of_ranked : (P : Sched → List Task → Type 0) (level : RankedLevel) (sched : Sched) (tasks : List Task)
    → (level.sched ≡ sched) × (level.tasks.now ≡ tasks) → P level.sched level.tasks.now → P sched tasks
of_ranked P level sched tasks same said =
    subst (P sched) same.1 (subst (λ (s : Sched). P s level.tasks.now) same.0 said)

pub to_ranked : (P : Sched → List Task → Type 0) (level : RankedLevel) (sched : Sched) (tasks : List Task)
    → (level.sched ≡ sched) × (level.tasks.now ≡ tasks) → P sched tasks → P level.sched level.tasks.now
to_ranked P level sched tasks same said =
    subst (λ (s : Sched). P s level.tasks.now) (sym same.0) (subst (P sched) (sym same.1) said)
