use Rattle.std.proofs.Common.{◌≡◌, ℕ, ◌<◌, length}
use Rattle.slot_model.specs.Task.{job_at}
use Rattle.span_counts.specs.inner.Waits.{wait_at}
use Rattle.span_counts.proofs.pending.first_waits.Given as goal

abbrev pub invariant-loop-job : goal.invariant-loop-job
invariant-loop-job l =
    record {
      long : length l.waits.items ≡ l.job-index;
      each : (j : ℕ) → j < l.job-index
          → wait_at l.waits.items j ≡ record { left = (job_at l.jobs j).work; end = l.slots };
    }
