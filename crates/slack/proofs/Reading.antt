-- The leaf as it is read: its tasks, its scheduler and its period, and what was found
-- of them is found of the leaf.
use Rattle.std.proofs.Common.{◌≡◌, ℕ, ◌<◌, true, List, length, get_or, sym, ap, subst, arith}
use Rattle.std.specs.Prelude.{IfOk, Result, Ok, Err}
use Rattle.std.proofs.lemmas.List.{length-map}
use Rattle.slot_model.specs.declared.sched.Sched.{Sched}
use Rattle.slot_model.specs.declared.task.Task.{Task}
use Rattle.slot_model.specs.Task.{SporadicTask, sporadic_task, sporadic_tasks}
use Rattle.slot_model.specs.Bound.{sbf, TestPasses}
use Rattle.tree_model.specs.View.{PartView, SystemView}
use Rattle.tree_model.specs.System.{IsSystem, part_at, own_tasks_at, is_leaf_at}
use Rattle.tree_model.specs.Tree.{budget_at}
use Rattle.slack.specs.MostWork.{AreMostWorks}
use Rattle.slack.specs.inner.Steps.{part_with_budget, IsMostBudget, AreMostPassing}
use Rattle.slack.proofs.Most.{AtLeaf, at_changed, is_most_work, own_length}

same_test : (s z : Sched) (tasks own : List SporadicTask) (p r budget : ℕ) → s ≡ z → tasks ≡ own → p ≡ r
    → TestPasses z own (sbf r budget) r → TestPasses s tasks (sbf p budget) p
same_test s z tasks own p r budget a b c h =
    subst (λ (x : Sched). TestPasses x tasks (sbf p budget) p) (sym a)
    (subst (λ (ts : List SporadicTask). TestPasses z ts (sbf p budget) p) (sym b)
    (subst (λ (k : ℕ). TestPasses z own (sbf k budget) k) (sym c) h))

-- they pass under the greatest budget
pub read_passes : (sys : SystemView) (q : ℕ) → q < length sys.parts → is_leaf_at sys q ≡ true → (budget : ℕ)
    → IsMostBudget sys q budget → (s : Sched) (tasks : List SporadicTask) (p : ℕ) → s ≡ (part_at sys q).sched
    → tasks ≡ own_tasks_at sys q → p ≡ (part_at sys q).period → TestPasses s tasks (sbf p budget) p
read_passes sys q h leaf budget found s tasks p a b c =
    let part : PartView = part_at sys q in
    let now_at : AtLeaf (part_with_budget part budget) (budget_at found.admitted.0 q)
    = at_changed sys q h (part_with_budget part budget) leaf found.admitted.0 found.admitted.1 in
    same_test s part.sched tasks (own_tasks_at sys q) p part.period budget a b c
    (subst (λ (k : ℕ). TestPasses part.sched (own_tasks_at sys q) (sbf part.period k) part.period) now_at.stands
    now_at.passes)

same_most : (s z : Sched) (tasks own : List SporadicTask) (p r budget : ℕ) (works : List ℕ) → s ≡ z → tasks ≡ own
    → p ≡ r → AreMostPassing s tasks p budget works → AreMostPassing z own r budget works
same_most s z tasks own p r budget works a b c h =
    subst (λ (x : Sched). AreMostPassing x own r budget works) a
    (subst (λ (ts : List SporadicTask). AreMostPassing s ts r budget works) b
    (subst (λ (k : ℕ). AreMostPassing s tasks k budget works) c h))

-- so the greatest works under it are those of the leaf
pub are_most : (sys : SystemView) → IsSystem sys → (q : ℕ) → q < length sys.parts → is_leaf_at sys q ≡ true
    → (budget : ℕ) → IsMostBudget sys q budget → (s : Sched) (tasks : List Task) (p : ℕ)
    → s ≡ (part_at sys q).sched → sporadic_tasks tasks ≡ own_tasks_at sys q → p ≡ (part_at sys q).period
    → (works : List ℕ) → length works ≡ length tasks → AreMostPassing s (sporadic_tasks tasks) p budget works
    → AreMostWorks sys q works
are_most sys is q h leaf budget found s tasks p a b c works long most =
    let part : PartView = part_at sys q in
    let own : AreMostPassing part.sched (own_tasks_at sys q) part.period budget works
    = same_most s part.sched (sporadic_tasks tasks) (own_tasks_at sys q) p part.period budget works a b c most in
    let one_each : length works ≡ length part.tasks
    = omega (
      arith,
      long,
      length-map tasks sporadic_task,
      ap (λ (ts : List SporadicTask). length ts) b,
      own_length part,
    ) in
    record {
      one_each = one_each;
      each =
          λ i l. is_most_work sys is q h leaf budget found i (get_or works i 0) l
          (own.each i (omega (arith, l, one_each)));
    }

-- two facts of a result
pub both_ok : {X Y : Type 0} (r : Result X Y) (P Q R : X → Type 0) → ((x : X) → P x → Q x → R x) → IfOk r P
    → IfOk r Q → IfOk r R
both_ok (Ok x) P Q R f p q = f x p q
both_ok (Err e) P Q R f p q = tt
