use Rattle.std.proofs.Common.{◌≡◌, ◌-◌, min}
use Rattle.slot_model.specs.Task.{sporadic_tasks}
use Rattle.slot_model.specs.Release.{synchronous}
use Rattle.release_pattern.specs.inner.Due.{IsDue}
use Rattle.release_pattern.proofs.jobs.synchronous_jobs.Given as goal

-- the jobs of the moments so far
abbrev pub invariant-loop-after : goal.invariant-loop-after
invariant-loop-after l = record {
  jobs : l.jobs.items ≡ synchronous (sporadic_tasks l.tasks) l.start (min l.after l.span);
  due : IsDue (sporadic_tasks l.tasks) l.after l.due;
}

abbrev pub decreases-loop-after : goal.decreases-loop-after
decreases-loop-after l = l.span - l.after
