use Rattle.std.proofs.Common.{sym, subst}
use Rattle.slot_model.specs.Task.{sporadic_tasks}
use Rattle.span_counts.specs.inner.Services.{AreServices}
use Rattle.span_counts.proofs.services.first_miss_by.Goals as goal

pub returns : goal.returns
returns c =
    let level = c.args.level.now in
    let r = c.in_ok-got.ensures.served in
    let got : AreServices (sporadic_tasks level.tasks.now) level.jobs.now r.0 c.deref.result.now
    = subst (AreServices (sporadic_tasks level.tasks.now) level.jobs.now r.0) (sym c.deref.ensures.value) r.3 in
    (r.0, r.1, c.find_missed.ensures.first r.0 r.2 got)
