use Rattle.std.proofs.Common.{sym, subst}
use Rattle.slot_model.specs.Task.{sporadic_tasks}
use Rattle.guest_sched.specs.Spans.{run_of}
use Rattle.span_counts.specs.inner.Services.{AreServices}
use Rattle.span_counts.proofs.counts.count_level.Goals as goal

pub returns : goal.returns
returns c =
    let run = run_of c.args.spans.now in
    let got : AreServices (sporadic_tasks c.args.tasks.now) c.args.jobs.now run c.deref.result.now
    = subst (AreServices (sporadic_tasks c.args.tasks.now) c.args.jobs.now run) (sym c.deref.ensures.value)
    c.in_ok-got.ensures in
    c.counts_of.ensures run c.requires.long got
