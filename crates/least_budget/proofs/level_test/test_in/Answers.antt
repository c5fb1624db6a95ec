use Rattle.std.proofs.Common.{List}
use Rattle.slot_model.specs.declared.sched.Sched.{Sched}
use Rattle.slot_model.specs.declared.task.Task.{Task}
use Rattle.slot_model.specs.Task.{sporadic_tasks}
use Rattle.slot_model.proofs.Constrained.{are_constrained}
use Rattle.least_budget.specs.Answers.{IsTested}
use Rattle.least_budget.proofs.Testing.{tested_foretells}
use Rattle.least_budget.proofs.Gathered.{of_gathered}
use Rattle.least_budget.proofs.level_test.test_in.Goals as goal

pub returns-clause-exact : goal.returns-clause-exact
returns-clause-exact g c =
    of_gathered (λ (sched : Sched) (ts : List Task). IsTested sched (sporadic_tasks ts) (g.S.Supply.bound c.args.s.now)
    (g.S.Supply.cycle_of c.args.s.now) c.test.result) c.gather-level.result c.args.sched c.args.tasks.now
    c.gather-level.ensures.sched c.gather-level.ensures.tasks c.test.ensures.exact

pub returns-clause-foretells : goal.returns-clause-foretells
returns-clause-foretells g c =
    tested_foretells c.args.sched (sporadic_tasks c.args.tasks.now) (are_constrained c.args.tasks.now)
    (g.met.S.Supply.laws c.args.s.now) c.test.result (returns-clause-exact g c)
