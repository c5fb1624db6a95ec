-- A term in which one task stands for another.
use Rattle.std.specs.Prelude.{◌≡◌, ◌+◌, ◌-◌, ◌^◌, ◌<◌, ◌≤◌}
use Rattle.slot_model.specs.declared.task.Task.{Task}
use Rattle.window_terms.specs.declared.term.Term.{Term}

-- the term has the period of the task, and as its slack what the task's room leaves of it
pub record Serves (term : Term) (task : Task) : Type 0 where
  pub period : term.period ≡ task.period
  pub slack : term.slack ≡ task.period - (task.deadline - task.jitter)

-- the term serves both tasks, and 64 bits hold its work with that of the second for the first's
pub record CanExchange (term : Term) (before task : Task) : Type 0 where
  pub serves_before : Serves term before
  pub serves : Serves term task
  pub no_less : before.work ≤ term.work + task.work
  pub fits : term.work + task.work < before.work + 2 ^ 64

-- both terms serve both tasks, and the works differ as those of the tasks do
pub record IsExchanged (term other : Term) (before task : Task) : Type 0 where
  pub serves_before : Serves term before
  pub serves : Serves term task
  pub period : other.period ≡ term.period
  pub slack : other.slack ≡ term.slack
  pub work : other.work + before.work ≡ term.work + task.work
