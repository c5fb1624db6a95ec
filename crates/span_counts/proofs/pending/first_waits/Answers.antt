use Rattle.std.proofs.Common.{sym, subst, arith}
use Rattle.slot_model.specs.Task.{job_at}
use Rattle.span_counts.specs.declared.pending.Wait.{Wait}
use Rattle.span_counts.specs.inner.Waits.{WaitsTo}
use Rattle.span_counts.proofs.Waiting.{first_wait}
use Rattle.span_counts.proofs.pending.first_waits.Goals as goal

pub returns : goal.returns
returns c = λ run. record {
  long = omega (arith, c.loop-job.invariant.long, c.loop-job-test.false);
  each = λ j l.
      let jobs = c.args.jobs.now in
      let at = c.loop-job.invariant.each j (omega (arith, c.loop-job-test.false)) in
      subst (λ (w : Wait). WaitsTo run j (job_at jobs j).work c.args.slots 0 w) (sym at)
      (first_wait run j (job_at jobs j).work c.args.slots (c.requires.works j l));
}
