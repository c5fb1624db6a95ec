use Rattle.std.proofs.Common.{ℕ, subst, sym}
use Rattle.slot_model.specs.Task.{sporadic_tasks}
use Rattle.slot_model.specs.Order.{ranks_above}
use Rattle.slot_model.proofs.Constrained.{are_constrained}
use Rattle.fp_request.specs.Ranks.{ranks_is_rank}
use Rattle.fp_request.proofs.Parts.{sporadic_tasks-length}
use Rattle.fp_request.specs.Lowest.{IsLowest}
use Rattle.least_budget.proofs.CommonHit.{common_answer}
use Rattle.least_budget.proofs.lowest.hit_of_lowest.Goals as goal

pub returns : goal.returns
returns g c =
    common_answer (ranks_above c.args.level.now.sched (sporadic_tasks c.args.level.now.tasks.now))
    (sporadic_tasks c.args.level.now.tasks.now)
    (ranks_is_rank c.args.level.now.sched (sporadic_tasks c.args.level.now.tasks.now))
    (are_constrained c.args.level.now.tasks.now)
    (g.S.Supply.bound c.args.s.now) c.lowest.result
    (subst (λ (n : ℕ). IsLowest (ranks_above c.args.level.now.sched (sporadic_tasks c.args.level.now.tasks.now)) n
    c.lowest.result)
    (sym (sporadic_tasks-length c.args.level.now.tasks.now)) c.lowest.ensures.lowest) c.hit_in.result c.hit_in.ensures
