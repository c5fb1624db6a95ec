use Rattle.std.proofs.Common.{◌≡◌, ℕ, ◌-◌, ◌^◌, ◌<◌, min, length, slice_index_or}
use Rattle.slot_model.specs.Task.{sporadic_tasks, job_at, deadline_of}
use Rattle.span_counts.proofs.services.Services.new.Given as goal

-- the dues of the jobs so far
abbrev pub invariant-loop-job : goal.invariant-loop-job
invariant-loop-job l = record {
  long : length l.dues.items ≡ l.job-index;
  each : (j : ℕ) → j < l.job-index → slice_index_or l.dues.items j 0
      ≡ min (deadline_of (sporadic_tasks l.tasks) (job_at l.jobs j)) (2 ^ 64 - 1);
}
