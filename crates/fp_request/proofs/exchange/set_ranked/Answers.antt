use Rattle.std.proofs.Common.{ℕ, ◌<◌, length, set, sym, ◌∙◌, ap, subst, arith, length-set}
use Rattle.slot_model.specs.Task.{sporadic_tasks}
use Rattle.slot_model.specs.Order.{ranks_above}
use Rattle.fp_request.specs.Terms.{AreRankedTo, tasks_above}
use Rattle.fp_request.specs.Ranks.{ranks_is_rank}
use Rattle.fp_request.proofs.Aboves.{place_within}
use Rattle.fp_request.proofs.InPlace.{exchanged_ranked, ranks_stay}
use Rattle.fp_request.proofs.exchange.set_ranked.Goals as goal

-- the place is among the terms
pub bounds-terms-place : goal.bounds-terms-place
bounds-terms-place c =
    let tasks = set c.args.tasks.now c.args.i c.args.task in
    let named : c.args.i < length tasks
    = omega (arith, c.requires.i_named, length-set c.args.tasks.now c.args.i c.args.task) in
    omega (
      arith,
      c.above_among-place.ensures.terms,
      place_within (ranks_above c.args.sched (sporadic_tasks tasks))
          (ranks_is_rank c.args.sched (sporadic_tasks tasks)) c.args.i (length tasks) named,
    )

pub returns-then-tasks-le-KEPT-clause-ranked : goal.returns-then-tasks-le-KEPT-clause-ranked
returns-then-tasks-le-KEPT-clause-ranked c long few =
    let before = c.args.tasks.now in
    let tasks = set before c.args.i c.args.task in
    let as_long = length-set before c.args.i c.args.task in
    subst (λ (n : ℕ). AreRankedTo (ranks_above c.args.sched (sporadic_tasks tasks)) (sporadic_tasks tasks) n
    (set c.args.terms.now c.above_among-place.result.terms c.made_of.result)) (sym as_long)
    (exchanged_ranked (ranks_above c.args.sched (sporadic_tasks before))
    (ranks_above c.args.sched (sporadic_tasks tasks)) (ranks_is_rank c.args.sched (sporadic_tasks before))
    (ranks_stay c.args.sched before c.args.i c.args.task c.requires.i_named
    (omega (arith, c.rank_of-before.ensures.exact, c.rank_of.ensures.exact, c.if-rank_of-before.false)))
    before c.args.i c.above_among-place.result.terms c.args.terms.now c.made_of.result c.args.task c.requires.i_named
    (c.above_among-place.ensures.terms
    ∙ ap (tasks_above (ranks_above c.args.sched (sporadic_tasks tasks)) c.args.i) as_long) c.made_of.ensures
    (c.requires.ranked (omega arith) (omega (arith, as_long))))
