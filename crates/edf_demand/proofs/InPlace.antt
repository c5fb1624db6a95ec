-- One task in place of another, in its place and in its term.
use Rattle.std.proofs.Common.{◌≡◌, ℕ, ◌+◌, ◌-◌, ◌*◌, ◌/◌, ◌^◌, ◌<◌, List, All, get_or, take, set, sym, ◌∙◌, ap, arith, subst, length-set}
use Rattle.std.proofs.Math.Seq.{take-set-lt}
use Rattle.std.proofs.lemmas.List.{get_or-take, get_or-map, length-map, length-take-le, map-set}
use Rattle.std.proofs.lemmas.List.Elements.{All-set}
use Rattle.std.proofs.lemmas.List.Sums.{sum_by-set}
use Rattle.slot_model.specs.declared.task.Task.{Task}
use Rattle.slot_model.specs.Task.{SporadicTask, sporadic_task, sporadic_tasks}
use Rattle.slot_model.specs.Bound.{demand_of, dbf}
use Rattle.slot_model.proofs.Constrained.{constrained}
use Rattle.slot_model.proofs.Demand.{demand_closed}
use Rattle.window_terms.specs.declared.term.Term.{Term}
use Rattle.window_terms.specs.Asked.{asked_by, IsNear}
use Rattle.window_terms.proofs.Written.{asked_of}
use Rattle.edf_demand.specs.declared.terms.Gathered.{Gathered}
use Rattle.edf_demand.specs.Terms.{IsGathered}
use Rattle.edf_demand.specs.inner.Exchanged.{IsExchanged, Serves}

-- a task that a term serves has so many jobs as the term says
jobs_of : (term : Term) (task : Task) (t : ℕ) → Serves term task
    → demand_of (sporadic_task task) t ≡ ((t + term.slack) / term.period) * task.work
jobs_of term task t serves =
    omega (
      arith,
      demand_closed (sporadic_task task) (constrained task) t,
      ap (λ (z : ℕ). ((t + z) / term.period) * task.work) serves.slack,
      ap (λ (z : ℕ). ((t + (task.period - (task.deadline - task.jitter))) / z) * task.work) serves.period,
    )

-- so the term asks for as much more as the task
exchanged_asks : (term other : Term) (before task : Task) (t : ℕ) → IsExchanged term other before task
    → asked_of other t + demand_of (sporadic_task before) t ≡ asked_of term t + demand_of (sporadic_task task) t
exchanged_asks term other before task t is =
    let jobs : ℕ = (t + term.slack) / term.period in
    let same : asked_of other t ≡ jobs * other.work
    = ap (λ (z : ℕ). ((t + z) / other.period) * other.work) is.slack
    ∙ ap (λ (z : ℕ). ((t + term.slack) / z) * other.work) is.period in
    omega (
      arith,
      same,
      jobs_of term before t is.serves_before,
      jobs_of term task t is.serves,
      ap (λ (z : ℕ). jobs * z) is.work,
    )

-- and is near as it was
exchanged_near : (term other : Term) (before task : Task) (near : ℕ) → IsExchanged term other before task
    → IsNear term near → IsNear other near
exchanged_near term other before task near is h =
    omega (
      arith,
      h,
      is.slack,
      term.is_reciprocal,
      other.is_reciprocal,
      ap (λ (z : ℕ). (2 ^ 64 - 1) / z) is.period,
    )

-- the terms stand for the tasks as before
pub exchanged_stands : (gathered : Gathered) (terms : List Term) (tasks : List Task) (i place : ℕ) (other : Term)
    (before task : Task) → IsGathered gathered terms tasks → i < gathered.tasks → place < gathered.terms
    → before ≡ get_or tasks i before
    → IsExchanged (get_or (take gathered.terms terms) place other) other before task
    → IsGathered gathered (set terms place other) (set tasks i task)
exchanged_stands gathered terms tasks i place other before task g li lp read is = record {
  in_terms = omega (arith, g.in_terms, length-set terms place other);
  in_tasks = omega (arith, g.in_tasks, length-set tasks i task);
  same = λ t. omega (
    arith,
    g.same t,
    ap (λ (xs : List Term). asked_by xs t) (take-set-lt gathered.terms terms place other lp),
    sum_by-set (λ x. asked_of x t) (take gathered.terms terms) place other other
        (omega (arith, lp, length-take-le gathered.terms terms g.in_terms)),
    exchanged_asks (get_or (take gathered.terms terms) place other) other before task t is,
    ap (λ (xs : List Task). dbf (sporadic_tasks xs) t) (take-set-lt gathered.tasks tasks i task li),
    ap (λ (xs : List SporadicTask). dbf xs t) (map-set sporadic_task (take gathered.tasks tasks) i task),
    sum_by-set (λ x. demand_of x t) (sporadic_tasks (take gathered.tasks tasks)) i (sporadic_task task)
        (sporadic_task before)
        (omega (
          arith,
          li,
          length-take-le gathered.tasks tasks g.in_tasks,
          length-map (take gathered.tasks tasks) sporadic_task,
        )),
    ap (λ (x : SporadicTask). demand_of x t)
        (get_or-map sporadic_task (take gathered.tasks tasks) i before (sporadic_task before)
        (omega (arith, li, length-take-le gathered.tasks tasks g.in_tasks))),
    ap (λ (x : Task). demand_of (sporadic_task x) t) (get_or-take gathered.tasks tasks i before li ∙ sym read),
  );
  near =
      subst (λ (xs : List Term). All (λ term. IsNear term gathered.near) xs)
      (sym (take-set-lt gathered.terms terms place other lp))
      (All-set (λ (term : Term). IsNear term gathered.near) (take gathered.terms terms) place other
      (exchanged_near (get_or (take gathered.terms terms) place other) other before task gathered.near is
      (g.near place other (omega (arith, lp, length-take-le gathered.terms terms g.in_terms))))
      g.near);
  fits = g.fits;
}
