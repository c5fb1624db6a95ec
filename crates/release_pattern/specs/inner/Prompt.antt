-- Tasks without their jitter.
use Rattle.std.specs.Prelude.{List, map}
use Rattle.slot_model.specs.Task.{SporadicTask, plain_task}

-- a task of the same numbers without jitter
abbrev pub prompt_task : SporadicTask → SporadicTask
prompt_task task = plain_task task.period task.deadline task.work

abbrev pub prompt_tasks : List SporadicTask → List SporadicTask
prompt_tasks tasks = map prompt_task tasks
