use Rattle.std.proofs.Common.{arith, sym, subst}
use Rattle.slot_model.specs.Task.{sporadic_tasks}
use Rattle.guest_sched.specs.Spans.{run_of}
use Rattle.span_counts.specs.inner.Services.{AreDues}
use Rattle.span_counts.proofs.Following.{all_taken, are_services}
use Rattle.span_counts.proofs.services.services_in.Goals as goal

pub follow_spans-requires-clause-takes : goal.follow_spans-requires-clause-takes
follow_spans-requires-clause-takes c =
    all_taken c.args.jobs.now c.args.spans.now _ c.requires.spans c.requires.released c.in_ok-services.ensures.dues.long

pub returns : goal.returns
returns c =
    let T = sporadic_tasks c.args.tasks.now in
    let after = c.follow_spans.new.follower in
    are_services T c.args.jobs.now after.dues.items (run_of c.args.spans.now) after.got.items
    (subst (AreDues T c.args.jobs.now) (sym c.in_ok-follow_spans.ensures.same) c.in_ok-services.ensures.dues)
    (omega (arith, c.requires.fits)) c.in_ok-follow_spans.ensures.followed
