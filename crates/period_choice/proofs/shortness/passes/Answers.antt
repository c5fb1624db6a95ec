use Rattle.std.proofs.lemmas.Bool.{false≢true}
use Rattle.slot_model.specs.Task.{sporadic_tasks}
use Rattle.least_budget.specs.Levels.{sched_of, tasks_of}
use Rattle.slot_model.specs.Bound.{sbf}
use Rattle.slot_model.proofs.Budgets.{short_not_passes}
use Rattle.least_budget.proofs.Shortfalls.{short_fails}
use Rattle.period_choice.proofs.shortness.passes.Goals as goal

pub returns-then-is_short : goal.returns-then-is_short
returns-then-is_short c = (
  λ on. absurd (false≢true on),
  λ passes. absurd (short_fails (sched_of c.args.level.now) (sporadic_tasks (tasks_of c.args.level.now))
      (sbf c.args.s.now.period c.args.s.now.budget) c.in-Some.short (c.is_short.ensures.0 c.if-is_short.true) passes.1),
)

pub returns-in-Short : goal.returns-in-Short
returns-in-Short c = (
  λ on. absurd (false≢true on),
  λ passes. absurd (short_not_passes (sched_of c.args.level.now) (sporadic_tasks (tasks_of c.args.level.now))
      (sbf c.args.s.now.period c.args.s.now.budget) c.in-Short.short c.in-Short.ensures.exact.1 passes.1),
)
