use Rattle.std.proofs.Common.{◌≡◌, ℕ, ◌-◌, ◌<◌, length, get_or, arith, ap, refl}
use Rattle.slot_model.specs.declared.sched.Short.TheVariants.{Task}
use Rattle.slot_model.specs.Task.{sporadic_task, sporadic_tasks, room_of, task_at}
use Rattle.slot_model.specs.Supply.{GivesBudget}
use Rattle.slot_model.specs.Order.{before_of}
use Rattle.slot_model.specs.Bound.{sbf, shows_by, IsShortfall}
use Rattle.slot_model.specs.Miss.{MustMiss}
use Rattle.slot_model.proofs.Constrained.{are_constrained}
use Rattle.slot_model.proofs.LegalJobs.{task_at-read}
use Rattle.fp_request.proofs.Parts.{sporadic_tasks-length}
use Rattle.miss_witness.proofs.Defeats.{budget_defeated, short_task_window, smaller_must_miss, task_of_short}
use Rattle.miss_witness.proofs.witnesses.defeat_by.Goals as goal
use Rattle.miss_witness.proofs.witnesses.defeat_by.Goals.{Start, In-Task}

pub returns-in-At-clause-misses : goal.returns-in-At-clause-misses
returns-in-At-clause-misses c =
    budget_defeated c.args.sched (sporadic_tasks c.args.tasks.now) (are_constrained c.args.tasks.now) c.args.period
    (c.args.least - 1) (omega arith) (omega arith) c.args.short c.in-At.span
    (ap (shows_by (sporadic_tasks c.args.tasks.now)) c.in-At.is) c.requires.short

-- each smaller budget misses too, whatever is short first
smaller : (c : Start) (budget : ℕ) → budget < c.args.least
    → MustMiss (GivesBudget c.args.period budget) (before_of c.args.sched (sporadic_tasks c.args.tasks.now))
    (sporadic_tasks c.args.tasks.now)
smaller c budget less =
    smaller_must_miss c.args.sched (sporadic_tasks c.args.tasks.now) (are_constrained c.args.tasks.now) c.args.period
    (c.args.least - 1) (omega (arith, less, c.requires.in_period)) (omega (arith, c.requires.in_period)) c.args.short
    c.requires.short budget (omega (arith, less))

pub returns-in-At-clause-must_miss : goal.returns-in-At-clause-must_miss
returns-in-At-clause-must_miss c = smaller (goal.at.returns-in-At-clause-must_miss c).Start

-- the task that is short first is one of the tasks
late : (c : In-Task)
    → IsShortfall c.args.sched (sporadic_tasks c.args.tasks.now) (sbf c.args.period (c.args.least - 1))
    (Task c.in-Task.task) × (c.in-Task.task < length (sporadic_tasks c.args.tasks.now))
late c =
    task_of_short c.args.sched (sporadic_tasks c.args.tasks.now) (sbf c.args.period (c.args.least - 1)) c.args.short
    c.in-Task.task c.in-Task.is c.requires.short

-- and its window is as it is read
room : (c : In-Task) (read : _) → read ≡ get_or c.args.tasks.now c.in-Task.task read
    → room_of (task_at (sporadic_tasks c.args.tasks.now) c.in-Task.task) ≡ room_of (sporadic_task read)
room c read is =
    ap room_of (task_at-read c.args.tasks.now c.in-Task.task read
    (omega (arith, (late c).1, sporadic_tasks-length c.args.tasks.now)) is)

pub returns-in-Task-clause-defeat : goal.returns-in-Task-clause-defeat
returns-in-Task-clause-defeat c =
    let at = (goal.at.returns-in-Task-clause-defeat c).In-Task in
    record {
      next_smaller = omega arith;
      at_start = refl;
      short =
          short_task_window c.args.sched (sporadic_tasks c.args.tasks.now) (sbf c.args.period (c.args.least - 1))
          c.in-Task.task _ (room at c.index-tasks-task.result c.index-tasks-task.is) (late at).0;
    }

pub returns-in-Task-clause-misses : goal.returns-in-Task-clause-misses
returns-in-Task-clause-misses c =
    let at = (goal.at.returns-in-Task-clause-misses c).In-Task in
    budget_defeated c.args.sched (sporadic_tasks c.args.tasks.now) (are_constrained c.args.tasks.now) c.args.period
    (c.args.least - 1) (omega arith) (omega arith) (Task c.in-Task.task) _
    (room at c.index-tasks-task.result c.index-tasks-task.is) (late at).0

pub returns-in-Task-clause-must_miss : goal.returns-in-Task-clause-must_miss
returns-in-Task-clause-must_miss c = smaller (goal.at.returns-in-Task-clause-must_miss c).Start
