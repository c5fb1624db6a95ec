use Rattle.std.proofs.Common.{arith}
use Rattle.slot_model.specs.Task.{sporadic_tasks}
use Rattle.slot_model.specs.Order.{ranks_above}
use Rattle.fp_request.proofs.Parts.{sporadic_tasks-length}
use Rattle.least_budget.proofs.ByTask.{hit_within}
use Rattle.least_budget.proofs.lowest.has_hit_within.Goals as goal

pub returns-then-is_within : goal.returns-then-is_within
returns-then-is_within g c = (
  λ yes'. hit_within (ranks_above c.args.level.now.sched (sporadic_tasks c.args.level.now.tasks.now))
      (sporadic_tasks c.args.level.now.tasks.now) (g.S.Supply.bound c.args.s.now) c.args.i
      (omega (arith, sporadic_tasks-length c.args.level.now.tasks.now)) c.args.common c.requires.common
      (c.is_within.ensures.0 c.if-is_within.true),
  λ has. c.if-is_within.true,
)
