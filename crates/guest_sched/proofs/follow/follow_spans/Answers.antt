use Rattle.std.proofs.Common.{sym, ◌∙◌, take}
use Rattle.guest_sched.specs.Spans.{run_of}
use Rattle.guest_sched.proofs.follow.follow_spans.Goals as goal

pub add-requires-clause-joins : goal.add-requires-clause-joins
add-requires-clause-joins g c =
    let i = c.loop-span.invariant in (
      run_of (take c.loop-span.span-index c.args.spans.now),
      i.long ∙ sym (c.requires.spans.join c.loop-span.span-index c.loop-span-test.true),
      i.followed,
    )
