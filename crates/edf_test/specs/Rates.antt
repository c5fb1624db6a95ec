-- How fast tasks ask, and how far their demand bound may be ahead of that.
use Rattle.std.specs.Prelude.{ℕ, ◌+◌, ◌-◌, ◌*◌, ◌/◌, ◌^◌, List, sum_by}
use Rattle.slot_model.specs.Task.{SporadicTask, room_of}

-- a task's work over its period, in 2^60 parts, rounded up
abbrev pub rate_up : SporadicTask → ℕ
rate_up task = (task.work * 2 ^ 60 + (task.period - 1)) / task.period

abbrev pub asked_rate : List SporadicTask → ℕ
asked_rate tasks = sum_by rate_up tasks

-- how far the demand bound may be ahead of that rate: a job is due before its period ends
abbrev pub asked_ahead : List SporadicTask → ℕ
asked_ahead tasks = sum_by (λ task. rate_up task * (task.period - room_of task)) tasks
