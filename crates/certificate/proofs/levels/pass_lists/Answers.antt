use Rattle.slot_model.specs.Task.{sporadic_tasks}
use Rattle.slot_model.proofs.Budgets.{hits_of}
use Rattle.certificate.proofs.levels.pass_lists.Goals as goal

pub hits_by-requires : goal.hits_by-requires
hits_by-requires g c =
    record {
      fixed = c.in_default.not-Edf;
      few = c.requires.few;
      all_hit =
          hits_of c.args.sched c.in_default.not-Edf (sporadic_tasks c.args.tasks.now) (g.S.Supply.bound c.args.s.now)
          c.requires.passes;
    }
