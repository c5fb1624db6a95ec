-- There is one defeat of the budget below the least: a part left out of the definition would let
-- two stand.
use Rattle.std.proofs.Common.{◌≡◌, ℕ, Bool, List, Option, Some, None, refl, sym, ◌∙◌, ap, arith, subst}
use Rattle.slot_model.specs.declared.sched.Sched.{Sched}
use Rattle.slot_model.specs.declared.sched.Sched.TheVariants.{Edf, Rm, Dm, Listed}
use Rattle.slot_model.specs.declared.sched.Short.TheVariants.{At, Task}
use Rattle.slot_model.specs.Task.{SporadicTask, room_of, task_at}
use Rattle.slot_model.specs.Order.{ranks_above}
use Rattle.slot_model.specs.Bound.{sbf, IsFirstShortTask}
use Rattle.slot_model.proofs.Budgets.{one_shortfall}
use Rattle.miss_witness.specs.declared.defeat.Defeat.{Defeat}
use Rattle.miss_witness.specs.Defeat.{IsShortTaskWindow, IsShortWindow, IsDefeat}

same_point : (t u : ℕ) → At t ≡ At u → t ≡ u
same_point t u e = cc

same_task : (i k : ℕ) → Task i ≡ Task k → i ≡ k
same_task i k e = cc

one_task_window : (above : ℕ → ℕ → Bool) (tasks : List SporadicTask) (bound : ℕ → ℕ)
    → ((i k : ℕ) → IsFirstShortTask above tasks bound i → IsFirstShortTask above tasks bound k → i ≡ k)
    → (s t : ℕ) (a b : Option ℕ) → IsShortTaskWindow above tasks bound s a → IsShortTaskWindow above tasks bound t b
    → (s ≡ t) × (a ≡ b)
one_task_window above tasks bound one s t None b p q = absurd p
one_task_window above tasks bound one s t (Some i) None p q = absurd q
one_task_window above tasks bound one s t (Some i) (Some k) p q =
    let same : i ≡ k = one i k p.0 q.0 in
    (p.1 ∙ (ap (λ (z : ℕ). room_of (task_at tasks z)) same ∙ sym q.1), ap Some same)

one_window : (sched : Sched) (tasks : List SporadicTask) (bound : ℕ → ℕ) (s t : ℕ) (a b : Option ℕ)
    → IsShortWindow sched tasks bound s a → IsShortWindow sched tasks bound t b → (s ≡ t) × (a ≡ b)
one_window Edf tasks bound s t (Some i) b p q = absurd p
one_window Edf tasks bound s t None (Some k) p q = absurd q
one_window Edf tasks bound s t None None p q = (same_point s t (one_shortfall Edf tasks bound (At s) (At t) p q), refl)
one_window Rm tasks bound s t a b p q =
    one_task_window (ranks_above Rm tasks) tasks bound
    (λ i k f g. same_task i k (one_shortfall Rm tasks bound (Task i) (Task k) f g)) s t a b p q
one_window Dm tasks bound s t a b p q =
    one_task_window (ranks_above Dm tasks) tasks bound
    (λ i k f g. same_task i k (one_shortfall Dm tasks bound (Task i) (Task k) f g)) s t a b p q
one_window Listed tasks bound s t a b p q =
    one_task_window (ranks_above Listed tasks) tasks bound
    (λ i k f g. same_task i k (one_shortfall Listed tasks bound (Task i) (Task k) f g)) s t a b p q

pub one_defeat : (sched : Sched) (tasks : List SporadicTask) (period least : ℕ) (a b : Defeat)
    → IsDefeat sched tasks period least a → IsDefeat sched tasks period least b
    → (a.budget ≡ b.budget) × (a.start ≡ b.start) × (a.span ≡ b.span) × (a.task ≡ b.task)
one_defeat sched tasks period least a b p q =
    let budget : a.budget ≡ b.budget = omega (arith, p.next_smaller, q.next_smaller) in
    let short : IsShortWindow sched tasks (sbf period b.budget) a.span a.task
    = subst (λ (z : ℕ). IsShortWindow sched tasks (sbf period z) a.span a.task) budget p.short in
    let window : (a.span ≡ b.span) × (a.task ≡ b.task)
    = one_window sched tasks (sbf period b.budget) a.span b.span a.task b.task short q.short in
    (budget, p.at_start ∙ (budget ∙ sym q.at_start), window.0, window.1)
