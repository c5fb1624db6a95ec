use Rattle.std.proofs.Common.{◌≡◌, ℕ, ◌+◌, ◌*◌, ◌-◌, ◌^◌, ◌<◌, ◌≤◌, Option, None, Some, MatchOption, SomeIff, take, List, ap, arith, mul-le-mul_left}
use Rattle.std.proofs.lemmas.List.{length-take-le}
use Rattle.slot_model.specs.declared.task.Task.{Task}
use Rattle.slot_model.specs.Task.{sporadic_tasks}
use Rattle.slot_model.specs.Bound.{dbf}
use Rattle.slot_model.proofs.HandedOn.{none_handed_on}
use Rattle.window_terms.specs.declared.term.Term.{Term}
use Rattle.window_terms.specs.Asked.{asked_by}
use Rattle.edf_demand.specs.declared.terms.Gathered.{Gathered}
use Rattle.edf_demand.specs.Terms.{IsGathered}
use Rattle.edf_demand.proofs.Demands.{dbf_small, dbf_split}
use Rattle.edf_demand.proofs.demand_bound.demand_by.Goals as goal

-- for each task a window asks for no more slots than a window has that is as long at the least
at_most : (gathered : Gathered) (terms : List Term) (tasks : List Task) (t most : ℕ) → t ≤ most
    → IsGathered gathered terms tasks → asked_by (take gathered.terms terms) t ≤ gathered.tasks * most
at_most gathered terms tasks t most within g =
    omega (
      arith,
      g.same t,
      dbf_small (take gathered.tasks tasks) t,
      ap (λ (n : ℕ). n * t) (length-take-le gathered.tasks tasks g.in_tasks),
      mul-le-mul_left gathered.tasks within,
    )

pub asked-first-requires-clause-near_fits : goal.asked-first-requires-clause-near_fits
asked-first-requires-clause-near_fits c l =
    omega (arith, at_most c.args.gathered c.args.terms.now c.args.tasks.now c.args.t _ l c.requires, c.requires.fits)

pub asked-first-requires-clause-fits : goal.asked-first-requires-clause-fits
asked-first-requires-clause-fits c =
    omega (
      arith,
      at_most c.args.gathered c.args.terms.now c.args.tasks.now c.args.t (2 ^ 64 - 1) (omega arith) c.requires,
    )

pub returns-in_err-demand : goal.returns-in_err-demand
returns-in_err-demand c =
    none_handed_on _ _ _ c.from_residual.ensures
    (omega (arith, dbf_split c.args.tasks.now c.args.gathered.tasks c.args.t, c.in_err-demand.ensures.exact))

sum_is : (whole first rest : ℕ) (answer : Option ℕ) → whole ≡ first + rest
    → SomeIff answer (rest + first < 2 ^ 128) (rest + first) → MatchOption answer (2 ^ 128 ≤ whole) (λ d. d ≡ whole)
sum_is whole first rest None e none = omega arith
sum_is whole first rest (Some d) e some = omega (arith, some.1)

pub returns : goal.returns
returns c =
    sum_is (dbf (sporadic_tasks c.args.tasks.now) c.args.t) c.asked-first.result c.in_ok-demand.field-0
    c.checked_add.result (omega (
      arith,
      dbf_split c.args.tasks.now c.args.gathered.tasks c.args.t,
      c.requires.same c.args.t,
      c.asked-first.ensures,
      c.in_ok-demand.ensures.exact,
    )) c.checked_add.ensures
