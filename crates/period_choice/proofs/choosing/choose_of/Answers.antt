use Rattle.slot_model.specs.Task.{sporadic_tasks}
use Rattle.least_budget.specs.Levels.{sched_of, tasks_of}
use Rattle.period_choice.proofs.BestSoFar.{best_of_all}
use Rattle.period_choice.proofs.choosing.choose_of.Goals as goal

pub returns-in-Best : goal.returns-in-Best
returns-in-Best c =
    best_of_all (sched_of c.args.level.now) (sporadic_tasks (tasks_of c.args.level.now)) c.args.low c.args.high
    c.in-Best.period c.in-Best.budget
    c.best_from-best.result.period c.best_from-best.result.budget c.requires.some_period c.in-Best.ensures
    c.best_from-best.ensures
