-- The line above the demand bound of tasks.
use Rattle.std.specs.Prelude.{◌≡◌, ℕ, ◌+◌, ◌*◌, ◌^◌, ◌≤◌, List, length}
use Rattle.slot_model.specs.declared.task.Task.{Task}
use Rattle.slot_model.specs.Task.{sporadic_tasks}
use Rattle.slot_model.specs.Bound.{dbf}
use Rattle.edf_test.specs.Rates.{asked_rate, asked_ahead}
use Rattle.edf_test.specs.declared.line.Line.{Line}

-- each task asks for its work once a period, and is ahead of that by less than 2^90 parts
pub record IsDemandLine (tasks : List Task) (line : Line) : Type 0 where
  pub above : (t : ℕ) → dbf (sporadic_tasks tasks) t * 2 ^ 60 ≤ line.slope * t + line.offset
  pub slope : line.slope ≡ asked_rate (sporadic_tasks tasks)
  pub offset : line.offset ≡ asked_ahead (sporadic_tasks tasks)
  pub small : line.offset ≤ length tasks * 2 ^ 90
