use Rattle.std.proofs.Common.{ℕ, List, length, ap, sym, subst}
use Rattle.slot_model.specs.declared.job.Job.{Job}
use Rattle.guest_sched.specs.Spans.{run_of, AreSpans}
use Rattle.span_counts.proofs.Following.{all_taken, waits_end}
use Rattle.span_counts.proofs.pending.waits_of.Goals as goal

pub follow_spans-requires-clause-takes : goal.follow_spans-requires-clause-takes
follow_spans-requires-clause-takes c =
    all_taken c.args.jobs.now c.args.spans.now _
    (subst (λ (n : ℕ). AreSpans c.args.spans.now n) (sym c.requires.long) c.requires.spans) c.requires.released
    (ap (λ (js : List Job). length js) c.in_ok-waits.ensures.over.0)

pub returns : goal.returns
returns c =
    let old = c.in_ok-waits.waits in
    let after = c.follow_spans.new.follower in
    let followed = c.in_ok-follow_spans.ensures in
    waits_end c.args.jobs.now old.jobs.now after.jobs.now (run_of c.args.spans.now) c.args.slots old.slots after.slots
    after.waits.items c.in_ok-waits.ensures.over followed.same c.requires.long followed.followed
