use Rattle.slot_model.specs.Task.{sporadic_tasks}
use Rattle.slot_model.specs.Order.{ranks_above}
use Rattle.certificate.proofs.Hits.{HitsTo}
use Rattle.certificate.proofs.levels.hits_of.Given as goal

abbrev pub invariant-loop-i : goal.invariant-loop-i
invariant-loop-i g l =
    HitsTo (ranks_above l.level.sched (sporadic_tasks l.level.tasks.now)) (sporadic_tasks l.level.tasks.now)
    (g.S.Supply.bound l.s) l.hits.items l.i
