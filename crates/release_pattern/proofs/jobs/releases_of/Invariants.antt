use Rattle.std.proofs.Common.{◌≡◌, ◌-◌, ◌^◌, min, take}
use Rattle.release_pattern.specs.inner.Due.{first_room}
use Rattle.release_pattern.proofs.jobs.releases_of.Given as goal

-- the room of the tasks so far
abbrev pub invariant-loop-task : goal.invariant-loop-task
invariant-loop-task l = l.count ≡ min (first_room (take l.task-index l.tasks) l.span) (2 ^ 64 - 1)
