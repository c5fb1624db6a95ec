use Rattle.std.proofs.Common.{◌≡◌, take}
use Rattle.release_file.specs.ReleaseFile.{task_names}
use Rattle.release_file.proofs.leaf_rows.task_places.Given as goal

-- the names so far
abbrev pub invariant-loop-task : goal.invariant-loop-task
invariant-loop-task l = l.places ≡ take l.task-index (task_names l.fn.tasks)
