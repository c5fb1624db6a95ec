-- What the servers on a core ask of it.
use Rattle.std.specs.Prelude.{ℕ, ◌*◌, ◌/◌, ◌^◌, List, sum_by}
use Rattle.slot_model.specs.Task.{SporadicTask}

-- the part of all slots that a task asks for, in parts of 2^32 rounded down, and that of all tasks
abbrev pub share : SporadicTask → ℕ
share task = task.work * 2 ^ 32 / task.period

abbrev pub shares : List SporadicTask → ℕ
shares tasks = sum_by share tasks
