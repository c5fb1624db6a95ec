-- Where the rates of the tasks and of a supply settle the test, with no rounding.
use Rattle.std.specs.Prelude.{ℕ, ◌+◌, ◌-◌, ◌*◌, ◌/◌, ◌<◌, ◌≤◌, List, sum_by}
use Rattle.slot_model.specs.Task.{SporadicTask, room_of}
use Rattle.slot_model.specs.Bound.{dbf, IsCommonMultiple}

-- over m slots that are a multiple of the cycle and of all periods: how far the demand bound may be
-- ahead of its rate, in parts of 1/m of a slot, ..
abbrev pub task_ahead : ℕ → SporadicTask → ℕ
task_ahead m task = m / task.period * task.work * (task.period - room_of task)

abbrev pub ahead_over : List SporadicTask → ℕ → ℕ
ahead_over tasks m = sum_by (task_ahead m) tasks

-- .. and how far a supply's bound may fall behind its rate, in parts of 1/cycle
abbrev pub behind_over : (ℕ → ℕ) → ℕ → ℕ → ℕ
behind_over bound amount cycle = amount * (2 * cycle - amount) - bound cycle * cycle

-- the tasks ask at no higher rate than the supply gives, and the two lines begin less than a slot
-- apart, so that the demand never catches up with the bound
pub record NeverMeets (tasks : List SporadicTask) (bound : ℕ → ℕ) (amount cycle m : ℕ)
    : Type 0 where
  pub common : IsCommonMultiple tasks cycle m
  pub no_faster : dbf tasks m ≤ m / cycle * amount
  pub close : ahead_over tasks m + m / cycle * behind_over bound amount cycle < m
