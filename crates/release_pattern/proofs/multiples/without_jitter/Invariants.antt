use Rattle.std.proofs.Common.{◌≡◌, take}
use Rattle.slot_model.specs.Task.{sporadic_tasks}
use Rattle.release_pattern.specs.inner.Prompt.{prompt_tasks}
use Rattle.release_pattern.proofs.multiples.without_jitter.Given as goal

-- the tasks so far
abbrev pub invariant-loop-task : goal.invariant-loop-task
invariant-loop-task l = sporadic_tasks l.prompt.items ≡ prompt_tasks (sporadic_tasks (take l.task-index l.tasks))
