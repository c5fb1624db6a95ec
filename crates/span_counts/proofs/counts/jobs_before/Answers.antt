use Rattle.std.proofs.Common.{◌≡◌, ℕ, ◌+◌, Bool, arith, sym, lt-ltb, le-ltb}
use Rattle.slot_model.specs.Slots.{count_below}
use Rattle.slot_model.proofs.Sums.{sum_below-zero}
use Rattle.slot_model.proofs.MissedJobs.{count_below-passes, count_below-fails}
use Rattle.span_counts.specs.Counts.{is_early}
use Rattle.span_counts.proofs.counts.jobs_before.Goals as goal
use Rattle.span_counts.proofs.counts.jobs_before.Goals.{then-job-moment, else-job-moment}

pub loop-job-init : goal.loop-job-init
loop-job-init c = record { counted = sym (sum_below-zero _); few = omega arith }

pub loop-job-preserved : goal.loop-job-preserved
loop-job-preserved c =
    let early : ℕ → Bool = is_early c.args.jobs.now c.args.moment in
    let i : ℕ = c.loop-job.job-index in
    elim c.if-job-moment.branch [
      | then-job-moment w ↦
          let more : count_below early (i + 1) ≡ count_below early i + 1
          = count_below-passes early i (lt-ltb _ _ w.if-job-moment.true) in
          record { counted = omega (arith, w.released-is); few = omega (arith, w.released-is) }
      | else-job-moment w ↦
          let same : count_below early (i + 1) ≡ count_below early i
          = count_below-fails early i (le-ltb _ _ w.if-job-moment.false) in
          record { counted = omega (arith, w.released-is); few = omega (arith, w.released-is) }
    ]
