use Rattle.std.proofs.Common.{List, arith, subst}
use Rattle.guest_sched.specs.Spans.{Window}
use Rattle.guest_sched.specs.inner.LastWindow.{EndsAt}
use Rattle.guest_sched.proofs.MoreWindows.{longer_read}
use Rattle.guest_sched.proofs.windows.add_window.Goals as goal

pub returns-then-ends_at : goal.returns-then-ends_at
returns-then-ends_at c =
    longer_read c.args.windows.now.items c.len-last.result c.args.from c.args.until c.index_mut.result.now
    c.requires.windows c.requires.some
    (subst (λ (z : List Window). EndsAt z c.args.from) c.deref.ensures.value (c.ends_at.ensures.0 c.if-ends_at.true))
    (omega arith) c.index_mut.ensures.value
