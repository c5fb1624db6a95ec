use Rattle.std.proofs.lemmas.Bool.{false≢true}
use Rattle.slot_model.specs.Task.{sporadic_tasks}
use Rattle.slot_model.specs.Bound.{sbf}
use Rattle.least_budget.specs.Levels.{sched_of, tasks_of}
use Rattle.slack.proofs.Tasks.{tested_not}
use Rattle.slack.proofs.works.all_pass.Goals as goal

pub returns-in_default : goal.returns-in_default
returns-in_default c = (
  λ on. absurd (false≢true on),
  λ passes. absurd (tested_not (sched_of c.args.level.now) (sporadic_tasks (tasks_of c.args.level.now))
      (sbf c.args.supply.period c.args.supply.budget) c.args.supply.period c.test.result c.test.ensures.exact
      c.in_default.not-Passes passes),
)
