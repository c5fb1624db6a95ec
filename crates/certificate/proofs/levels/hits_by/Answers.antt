use Rattle.std.proofs.Common.{List, subst, sym}
use Rattle.slot_model.specs.declared.sched.Sched.{Sched}
use Rattle.slot_model.specs.declared.task.Task.{Task}
use Rattle.slot_model.specs.Task.{sporadic_tasks}
use Rattle.slot_model.specs.Order.{ranks_above}
use Rattle.slot_model.specs.Bound.{AllHit}
use Rattle.certificate.proofs.levels.hits_by.Goals as goal

-- what is so of the tasks is so of the level that was gathered of them
pub hits_of-requires-clause-all_hit : goal.hits_of-requires-clause-all_hit
hits_of-requires-clause-all_hit g c =
    subst (λ (sched : Sched). AllHit (ranks_above sched (sporadic_tasks c.gather-level.result.tasks.now))
    (sporadic_tasks c.gather-level.result.tasks.now) (g.S.Supply.bound c.args.s.now)) (sym
    c.gather-level.ensures.level.0)
    (subst (λ (tasks : List Task). AllHit (ranks_above c.args.sched (sporadic_tasks tasks)) (sporadic_tasks tasks)
    (g.S.Supply.bound c.args.s.now)) (sym c.gather-level.ensures.level.1) c.requires.all_hit)
