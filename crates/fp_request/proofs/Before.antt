-- A fixed way to choose orders jobs by its rank.
use Rattle.std.proofs.Common.{◌≡◌, ◌≢◌, ◌∙◌, ◌||◌, ◌&&◌, ℕ, Bool, false, eqb, List, refl, ap, subst, eq-eqb}
use Rattle.slot_model.specs.Task.{SporadicTask}
use Rattle.slot_model.specs.declared.sched.Sched.{Sched}
use Rattle.slot_model.specs.declared.sched.Sched.TheVariants.{Edf, Rm, Dm, Listed}
use Rattle.slot_model.specs.Order.{before_of, fixed_before, arrives_before, ranks_above}
use Rattle.slot_model.specs.declared.job.Job.{Job}
use Rattle.fp_request.specs.Ranks.{ranks_is_rank}

-- all but earliest deadline first
pub before_of-fixed : (sched : Sched) → sched ≢ Edf → (tasks : List SporadicTask)
    → before_of sched tasks ≡ fixed_before (ranks_above sched tasks)
before_of-fixed Edf fixed tasks = absurd (fixed refl)
before_of-fixed Rm fixed tasks = refl
before_of-fixed Dm fixed tasks = refl
before_of-fixed Listed fixed tasks = refl

-- of one task the earlier arrival
pub one_task-by_arrival : (sched : Sched) → sched ≢ Edf → (tasks : List SporadicTask) (a b : Job) → a.task ≡ b.task
    → before_of sched tasks a b ≡ arrives_before a b
one_task-by_arrival sched fixed tasks a b same =
    let itself : ranks_above sched tasks a.task b.task ≡ false
    = subst (λ (z : ℕ). ranks_above sched tasks a.task z ≡ false) same
    ((ranks_is_rank sched tasks).not_itself a.task) in
    ap (λ (f : Job → Job → Bool). f a b) (before_of-fixed sched fixed tasks)
    ∙ (ap (λ (u : Bool). u || (eqb a.task b.task && arrives_before a b)) itself
    ∙ ap (λ (u : Bool). u && arrives_before a b) (eq-eqb _ _ same))
