use Rattle.std.proofs.Common.{◌≡◌, ◌≤◌}
use Rattle.slot_model.specs.Slots.{count_below}
use Rattle.span_counts.specs.Counts.{is_early}
use Rattle.span_counts.proofs.counts.jobs_before.Given as goal

abbrev pub invariant-loop-job : goal.invariant-loop-job
invariant-loop-job l =
    record { counted : l.released ≡ count_below (is_early l.jobs l.moment) l.job-index; few : l.released ≤ l.job-index }
