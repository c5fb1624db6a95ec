use Rattle.std.proofs.Common.{ℕ, ◌+◌, ◌<◌, List, length, get_or, arith, ap, sym, subst}
use Rattle.std.proofs.lemmas.List.{length_push}
use Rattle.slot_model.specs.Task.{sporadic_tasks}
use Rattle.slot_model.specs.Supply.{GivesBudget}
use Rattle.slot_model.specs.Order.{before_of, ranks_above}
use Rattle.slot_model.specs.Bound.{sbf}
use Rattle.fp_request.proofs.Parts.{sporadic_tasks-length}
use Rattle.fp_test.specs.Hits.{IsLeastHit}
use Rattle.response_times.specs.Response.{IsGreatestResponse}
use Rattle.slot_model.proofs.Places.{each_pushed}
use Rattle.least_budget.proofs.Shortfalls.{short_task_fails}
use Rattle.guest_commands.proofs.responding.responses_in.Goals as goal

pub unreachable-requires : goal.unreachable-requires
unreachable-requires c =
    short_task_fails c.args.level.now.sched (sporadic_tasks c.args.level.now.tasks.now)
    (sbf c.args.supply.now.period c.args.supply.now.budget) c.loop-i.i c.args.level.now.fixed
    (omega (arith, sporadic_tasks-length c.args.level.now.tasks.now, c.loop-i-test.true)) c.in_default.ensures.exact
    c.requires.passes

pub loop-i-preserved : goal.loop-i-preserved
loop-i-preserved c =
    let T = sporadic_tasks c.args.level.now.tasks.now in
    let period = c.args.supply.now.period in let budget = c.args.supply.now.budget in
    let i = c.loop-i.i in let worst = c.loop-i.worst.items in
    let least : ℕ → ℕ → Type 0 = IsLeastHit (ranks_above c.args.level.now.sched T) T (sbf period budget) in
    let greatest : ℕ → ℕ → Type 0
    = IsGreatestResponse (GivesBudget period budget) (before_of c.args.level.now.sched T) T in
    record {
      long =
          omega (
            arith,
            ap (λ (xs : List ℕ). length xs) c.in_ok-push.ensures.items,
            length_push worst c.in-Some.t,
            c.loop-i.invariant.long,
          );
      least =
          subst (λ (xs : List ℕ). (k : ℕ) → k < i + 1 → least k (get_or xs k 0)) (sym c.in_ok-push.ensures.items)
          (each_pushed least 0 worst c.in-Some.t i c.loop-i.invariant.long c.loop-i.invariant.least
          c.in-Some.ensures.exact);
      greatest =
          subst (λ (xs : List ℕ). (k : ℕ) → k < i + 1 → greatest k (get_or xs k 0)) (sym c.in_ok-push.ensures.items)
          (each_pushed greatest 0 worst c.in-Some.t i c.loop-i.invariant.long c.loop-i.invariant.greatest
          c.in-Some.ensures.greatest);
    }
