-- What defeats the next smaller budget of a computed leaf does so, and defeats every smaller one.
use Rattle.std.proofs.Common.{◌≡◌, ℕ, ◌+◌, ◌<◌, ◌≤◌, Bool, List, length, Option, Some, None, refl, sym, arith, subst}
use Rattle.std.specs.Prelude.{slice_index}
use Rattle.slot_model.specs.declared.sched.Sched.{Sched}
use Rattle.slot_model.specs.declared.sched.Sched.TheVariants.{Edf, Rm, Dm, Listed}
use Rattle.slot_model.specs.declared.sched.Short.{Short}
use Rattle.slot_model.specs.declared.sched.Short.TheVariants.{At, Task}
use Rattle.slot_model.specs.Task.{SporadicTask, AreConstrained}
use Rattle.slot_model.specs.Supply.{GivesBudget, worst_slot}
use Rattle.slot_model.specs.Order.{before_of}
use Rattle.slot_model.specs.Release.{synchronous}
use Rattle.slot_model.specs.Bound.{sbf, IsShortfall, shows_by}
use Rattle.slot_model.specs.Miss.{MissesFromStart, WorstList}
use Rattle.slot_model.proofs.Synchronous.{legal_synchronous}
use Rattle.slot_model.proofs.WorstLists.{worst_list, worst_list-is}
use Rattle.slot_model.proofs.WorstPattern.{periodic_laws}
use Rattle.least_budget.proofs.Budgets.{gives_less}
use Rattle.tree_model.specs.View.{SystemView}
use Rattle.tree_model.specs.System.{IsSystem, part_at, own_tasks, computed_leaves}
use Rattle.tree_model.specs.Tree.{budget_at}
use Rattle.tree_model.specs.Admission.{Admitted}
use Rattle.tree_model.proofs.InRange.{admitted_in_period}
use Rattle.tree_model.proofs.Parents.{leaf_constrained}
use Rattle.miss_witness.specs.declared.defeat.Defeat.{Defeat}
use Rattle.miss_witness.specs.declared.replay.Replay.{Replay}
use Rattle.miss_witness.specs.Defeat.{IsShortWindow, IsDefeat, IsDefeatSupply, TaskMissesFromStart, Defeats}
use Rattle.miss_witness.specs.Replay.{IsReplay, AreReplays, AllDefeat}
use Rattle.miss_witness.proofs.Defeats.{budget_defeated}
use Rattle.miss_witness.proofs.LateTask.{named_task_misses}

-- a window that is short is that of a shortfall
record ShortBy (sched : Sched) (tasks : List SporadicTask) (bound : ℕ → ℕ) (span : ℕ) : Type 0 where
  short : Short
  in_span : shows_by tasks short ≡ span
  falls : IsShortfall sched tasks bound short

window_short : (sched : Sched) (tasks : List SporadicTask) (bound : ℕ → ℕ) (span : ℕ) (task : Option ℕ)
    → IsShortWindow sched tasks bound span task → ShortBy sched tasks bound span
window_short Edf tasks bound span None h = record { short = At span; in_span = refl; falls = h }
window_short Edf tasks bound span (Some i) h = absurd h
window_short Rm tasks bound span None h = absurd h
window_short Rm tasks bound span (Some i) h = record { short = Task i; in_span = sym h.1; falls = h.0 }
window_short Dm tasks bound span None h = absurd h
window_short Dm tasks bound span (Some i) h = record { short = Task i; in_span = sym h.1; falls = h.0 }
window_short Listed tasks bound span None h = absurd h
window_short Listed tasks bound span (Some i) h = record { short = Task i; in_span = sym h.1; falls = h.0 }

-- over its list of slots, which gives its budget, its release misses
defeat_misses : (sched : Sched) (tasks : List SporadicTask) → AreConstrained tasks → (period least : ℕ)
    → 1 ≤ period → least ≤ period → (defeat : Defeat) → IsDefeat sched tasks period least defeat
    → (slots : List Bool) → IsDefeatSupply period defeat slots
    → GivesBudget period defeat.budget slots
    × MissesFromStart (worst_slot period defeat.budget) defeat.start defeat.span (before_of sched tasks) tasks slots
defeat_misses sched tasks fits period least some in_period defeat is =
    let window = window_short sched tasks (sbf period defeat.budget) defeat.span defeat.task is.short in
    subst (λ (z : ℕ). (slots : List Bool) → WorstList (worst_slot period defeat.budget) z defeat.span slots
    → GivesBudget period defeat.budget slots
    × MissesFromStart (worst_slot period defeat.budget) z defeat.span (before_of sched tasks) tasks slots)
    (sym is.at_start)
    (budget_defeated sched tasks fits period defeat.budget some (omega (arith, is.next_smaller)) window.short
    defeat.span window.in_span window.falls)

-- and where it names a task, that task is late
defeat_late_task : (sched : Sched) (tasks : List SporadicTask) → AreConstrained tasks → (period least : ℕ)
    → 1 ≤ period → least ≤ period → (defeat : Defeat) → IsDefeat sched tasks period least defeat
    → (slots : List Bool) → IsDefeatSupply period defeat slots → (i : ℕ) → defeat.task ≡ Some i
    → TaskMissesFromStart defeat.start defeat.span (before_of sched tasks) tasks slots i
defeat_late_task sched tasks fits period least some in_period defeat is slots worst i named =
    let window : IsShortWindow sched tasks (sbf period defeat.budget) defeat.span (Some i)
    = subst (IsShortWindow sched tasks (sbf period defeat.budget) defeat.span) named is.short in
    subst (λ (z : ℕ). WorstList (worst_slot period defeat.budget) z defeat.span slots
    → TaskMissesFromStart z defeat.span (before_of sched tasks) tasks slots i)
    (sym is.at_start)
    (named_task_misses sched tasks fits (periodic_laws period defeat.budget some (omega (arith, is.next_smaller)))
    defeat.span i window slots) worst

pub defeat_defeats : (sched : Sched) (tasks : List SporadicTask) → AreConstrained tasks → (period least : ℕ)
    → 1 ≤ period → least ≤ period → (defeat : Defeat) → IsDefeat sched tasks period least defeat
    → Defeats sched tasks period defeat
defeat_defeats sched tasks fits period least some in_period defeat is =
    let slots : List Bool = worst_list (worst_slot period defeat.budget) (defeat.start + defeat.span) in
    let supply : IsDefeatSupply period defeat slots
    = worst_list-is (worst_slot period defeat.budget) defeat.start defeat.span in
    let does = defeat_misses sched tasks fits period least some in_period defeat is in
    let legal = legal_synchronous tasks fits defeat.start defeat.span in
    record {
      some_supply = (slots, supply);
      gives = λ xs worst budget less. gives_less period defeat.budget budget xs less (does xs worst).0;
      legal = legal;
      misses = λ xs worst. (does xs worst).1;
      late_task = defeat_late_task sched tasks fits period least some in_period defeat is;
      must_miss = λ budget less. record {
        slots = slots;
        jobs = synchronous tasks defeat.start defeat.span;
        conforms = gives_less period defeat.budget budget slots less (does slots supply).0;
        legal = legal;
        some_run = (does slots supply).1.some_run;
        misses = (does slots supply).1.misses;
      };
    }

-- so does each replay of an admitted system
pub replays_defeat : (sys : SystemView) → IsSystem sys → (budgets : List ℕ) → Admitted sys budgets
    → (replays : List Replay) → AreReplays sys budgets replays → AllDefeat sys replays
replays_defeat sys is budgets admitted replays are k replay e =
    let q : ℕ = slice_index (computed_leaves sys) k in
    let of : IsReplay sys budgets q replay = are.each k replay e in
    let h : q < length sys.parts = of.is_part in
    subst (λ (p : ℕ). Defeats (part_at sys p).sched (own_tasks (part_at sys p)) (part_at sys p).period replay.witness)
    (sym of.of_part) (defeat_defeats (part_at sys q).sched (own_tasks (part_at sys q)) (leaf_constrained sys is q h)
    (part_at sys q).period (budget_at budgets q) (is.parts q h).period.0
    (admitted_in_period sys is budgets admitted q h).1 replay.witness of.defeat)
