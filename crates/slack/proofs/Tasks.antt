-- The tasks as the code holds them: another one is tried in a place, and whether all pass.
use Rattle.std.proofs.Common.{◌≡◌, ℕ, ◌<◌, List, length, set, get_or, refl, sym, ◌∙◌, ap}
use Rattle.std.proofs.lemmas.List.{map-set, set-set}
use Rattle.slot_model.specs.declared.sched.Sched.{Sched}
use Rattle.slot_model.specs.declared.task.Task.{Task}
use Rattle.slot_model.specs.Task.{SporadicTask, jittery_task, sporadic_task, sporadic_tasks, task_at}
use Rattle.slot_model.specs.Bound.{TestPasses}
use Rattle.slot_model.proofs.LegalJobs.{task_at-read}
use Rattle.slot_model.proofs.Budgets.{short_not_passes}
use Rattle.least_budget.specs.declared.answers.Tested.{Tested}
use Rattle.least_budget.specs.declared.answers.Tested.TheVariants.{Passes as AllPasses, Short as FirstShort, Wide as TestWide}
use Rattle.least_budget.specs.Answers.{IsTested}
use Rattle.slack.specs.inner.Steps.{tasks_with}

same_numbers : (p d w j q e v k : ℕ) → p ≡ q → d ≡ e → w ≡ v → j ≡ k → jittery_task p d w j ≡ jittery_task q e v k
same_numbers p d w j q e v k a b c f =
    ap (λ (x : ℕ). jittery_task x d w j) a
    ∙ (ap (λ (x : ℕ). jittery_task q x w j) b
    ∙ (ap (λ (x : ℕ). jittery_task q e x j) c ∙ ap (λ (x : ℕ). jittery_task q e v x) f))

changed_tasks : (tasks : List Task) (i : ℕ) (task changed : Task) (work : ℕ) → i < length tasks
    → task ≡ get_or tasks i task
    → (changed.period ≡ task.period) × (changed.deadline ≡ task.deadline) × (changed.work ≡ work)
    × (changed.jitter ≡ task.jitter)
    → sporadic_tasks (set tasks i changed) ≡ tasks_with (sporadic_tasks tasks) i work
changed_tasks tasks i task changed work h e n =
    let read : sporadic_task task ≡ task_at (sporadic_tasks tasks) i = sym (task_at-read tasks i task h e) in
    let t : SporadicTask = task_at (sporadic_tasks tasks) i in
    map-set sporadic_task tasks i changed
    ∙ ap (λ (x : SporadicTask). set (sporadic_tasks tasks) i x)
    (same_numbers changed.period changed.deadline changed.work changed.jitter t.period t.deadline work t.jitter
    (n.0 ∙ ap (λ (x : SporadicTask). x.period) read) (n.1 ∙ ap (λ (x : SporadicTask). x.deadline) read) n.2
    (n.3 ∙ ap (λ (x : SporadicTask). x.jitter) read))

-- another one was tried there before
pub tried_tasks : (now first : List Task) (i : ℕ) (task tried : Task) (work : ℕ) → i < length first
    → set now i task ≡ first → task ≡ get_or first i task
    → (tried.period ≡ task.period) × (tried.deadline ≡ task.deadline) × (tried.work ≡ work)
    × (tried.jitter ≡ task.jitter)
    → sporadic_tasks (set now i tried) ≡ tasks_with (sporadic_tasks first) i work
tried_tasks now first i task tried work h back e n =
    ap sporadic_tasks
    (sym (set-set now i task tried) ∙ ap (λ (ts : List Task). set ts i tried) back)
    ∙ changed_tasks first i task tried work h e n

pub back_again : (now first : List Task) (i : ℕ) (task tried : Task) → set now i task ≡ first
    → set (set now i tried) i task ≡ first
back_again now first i task tried back = set-set now i tried task ∙ back

-- what is told to fall short or to be wide passes not
pub tested_not : (sched : Sched) (tasks : List SporadicTask) (bound : ℕ → ℕ) (cycle : ℕ) (told : Tested)
    → IsTested sched tasks bound cycle told → (told ≡ AllPasses → ⊥) → TestPasses sched tasks bound cycle → ⊥
tested_not sched tasks bound cycle AllPasses told none passes = none refl
tested_not sched tasks bound cycle (FirstShort short) told none passes =
    short_not_passes sched tasks bound short told.1 passes.1
tested_not sched tasks bound cycle TestWide told none passes = told passes.0
