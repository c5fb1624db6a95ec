use Rattle.std.proofs.Common.{List}
use Rattle.slot_model.specs.declared.sched.Sched.{Sched}
use Rattle.slot_model.specs.declared.task.Task.{Task}
use Rattle.slot_model.specs.Task.{sporadic_tasks}
use Rattle.slot_model.proofs.Constrained.{are_constrained}
use Rattle.least_budget.specs.Answers.{IsLeastOf}
use Rattle.least_budget.proofs.Between.{least_separates}
use Rattle.least_budget.proofs.Gathered.{of_gathered}
use Rattle.least_budget.proofs.halving.least_in.Goals as goal

pub returns-clause-exact : goal.returns-clause-exact
returns-clause-exact g c =
    of_gathered (λ (sched : Sched) (ts : List Task). IsLeastOf sched (sporadic_tasks ts)
    (g.S.Budgeted.bound_with c.args.s.now) (g.S.Supply.cycle_of c.args.s.now)
    (g.S.Budgeted.most_of c.args.s.now) c.least_of.result) c.gather-level.result c.args.sched c.args.tasks.now
    c.gather-level.ensures.sched c.gather-level.ensures.tasks c.least_of.ensures

pub returns-clause-separates : goal.returns-clause-separates
returns-clause-separates g c =
    least_separates c.args.sched (sporadic_tasks c.args.tasks.now) (are_constrained c.args.tasks.now)
    (g.met.S.Budgeted.budget_laws c.args.s.now) c.least_of.result (returns-clause-exact g c)
