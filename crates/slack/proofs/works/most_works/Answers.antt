use Rattle.std.proofs.Common.{ℕ, List, length, ap, sym, subst, arith, ◌∙◌}
use Rattle.std.proofs.lemmas.List.{length_push}
use Rattle.slot_model.specs.declared.sched.Sched.{Sched}
use Rattle.slot_model.specs.declared.task.Task.{Task}
use Rattle.slot_model.specs.Task.{sporadic_tasks}
use Rattle.slot_model.proofs.Places.{each_pushed}
use Rattle.least_budget.specs.Gatherings.{sched_by}
use Rattle.slack.specs.inner.Steps.{IsMostPassing, AreMostPassing}
use Rattle.slack.proofs.works.most_works.Goals as goal

pub loop-i-preserved : goal.loop-i-preserved
loop-i-preserved c =
    let i = c.loop-i.i in let works = c.loop-i.works.items in
    let before = c.loop-i.invariant in
    let most : ℕ → ℕ → Type 0
    = IsMostPassing c.args.sched (sporadic_tasks c.args.tasks.now) c.args.supply.period c.args.supply.budget in
    let here : most i c.most_work.result
    = subst (λ (s : Sched). IsMostPassing s (sporadic_tasks c.args.tasks.now) c.args.supply.period
    c.args.supply.budget i c.most_work.result) before.sched
    (subst (λ (ts : List Task). IsMostPassing (sched_by c.loop-i.gathering) (sporadic_tasks ts) c.args.supply.period
    c.args.supply.budget i c.most_work.result) before.same c.most_work.ensures.most) in
    record {
      same = c.most_work.ensures.same ∙ before.same;
      sched = c.most_work.ensures.sched ∙ before.sched;
      stand = c.most_work.ensures.stand;
      so_far =
          omega (
            arith,
            ap (λ (xs : List ℕ). length xs) c.in_ok-push.ensures.items,
            length_push works c.most_work.result,
            before.so_far,
          );
      most =
          subst (λ (xs : List ℕ). AreMostPassing c.args.sched (sporadic_tasks c.args.tasks.now)
          c.args.supply.period c.args.supply.budget xs) (sym c.in_ok-push.ensures.items)
          (record {
            each =
                λ k l. each_pushed most 0 works c.most_work.result i before.so_far
                (λ j m. before.most.each j (omega (arith, before.so_far)))
                here k (omega (arith, l, length_push works c.most_work.result, before.so_far));
          });
    }
