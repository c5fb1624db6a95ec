use Rattle.std.proofs.Common.{arith}
use Rattle.slot_model.specs.Task.{sporadic_tasks}
use Rattle.slot_model.specs.Order.{ranks_above}
use Rattle.fp_request.proofs.Aboves.{ranked_above}
use Rattle.fp_request.proofs.ranked.RankedLevel.above.Goals as goal

pub returns : goal.returns
returns c =
    let ranked = c.args.self.now.are_ranked (omega (arith, c.if-self.false)) in
    ranked_above (ranks_above c.args.self.now.sched (sporadic_tasks c.args.self.now.tasks.now))
    c.args.self.now.tasks.now c.args.i c.above_among.result c.args.self.now.terms.now c.requires ranked.0 ranked.1
    c.above_among.ensures.works c.above_among.ensures.terms
