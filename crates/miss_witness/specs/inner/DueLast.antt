-- The jobs of a synchronous release that are due at the end of its window, and which of them is
-- the first that misses where so much work is not done by then. No task has two of them.
use Rattle.std.specs.Prelude.{◌≡◌, ℕ, ◌+◌, ◌-◌, ◌%◌, ◌<◌, ◌≤◌, ◌==◌, ◌&&◌, ◌||◌, nat_lt, nat_le, if◌then◌else◌, Bool, true, List, length}
use Rattle.slot_model.specs.declared.miss.Miss.{Miss}
use Rattle.slot_model.specs.Slots.{sum_below}
use Rattle.slot_model.specs.Task.{SporadicTask, room_of, task_at}

-- whether a job of the task is due at the end of `span` slots
abbrev pub is_due_last : SporadicTask → ℕ → Bool
is_due_last task span = nat_le (room_of task) span && (span - room_of task) % task.period == 0

-- when that job is released, in slots after the start
abbrev pub last_release : SporadicTask → ℕ → ℕ
last_release task span = span - task.deadline

-- whether that job of task k is the one of task i, or stands behind it: by release, and then by
-- place
abbrev pub stands_from : List SporadicTask → ℕ → ℕ → ℕ → Bool
stands_from tasks span i k =
    let first = last_release (task_at tasks i) span in
    let next = last_release (task_at tasks k) span in
    nat_lt first next || (first == next && nat_le i k)

-- what task k asks for by such a job
abbrev pub part_from : List SporadicTask → ℕ → ℕ → ℕ → ℕ
part_from tasks span i k =
    if is_due_last (task_at tasks k) span && stands_from tasks span i k
    then (task_at tasks k).work
    else 0

-- the work of that job of task i and of those behind it
abbrev pub work_from : List SporadicTask → ℕ → ℕ → ℕ
work_from tasks span i = sum_below (part_from tasks span i) (length tasks)

-- so much work is not done, and that job of task i is the first that lacks some: all behind it get
-- nothing
pub record LacksFirst (tasks : List SporadicTask) (span lack i : ℕ) : Type 0 where
  pub is_task : i < length tasks
  pub due : is_due_last (task_at tasks i) span ≡ true
  pub lacks : lack ≤ work_from tasks span i
  pub served : work_from tasks span i < lack + (task_at tasks i).work

-- what is told of it, where the tasks release at `start`
abbrev pub miss_at : List SporadicTask → ℕ → ℕ → ℕ → ℕ → Miss
miss_at tasks start span lack i =
    record {
      task = i;
      release = start + last_release (task_at tasks i) span;
      deadline = start + span;
      got = work_from tasks span i - lack;
      work = (task_at tasks i).work;
    }
