use Rattle.std.proofs.Common.{arith}
use Rattle.server_sched.specs.inner.Cyclic.{cyclic_slot}
use Rattle.guest_sched.proofs.Spelled.{spelled_follows}
use Rattle.server_sched.proofs.Patterned.{one_period_more, all_cyclic}
use Rattle.server_sched.proofs.supplies.cyclic_windows.Goals as goal

pub loop-from-preserved : goal.loop-from-preserved
loop-from-preserved c =
    one_period_more c.args.period c.args.first c.args.budget c.args.slots c.loop-from.from c.min-until.result
    c.loop-from.windows.items c.add_window.new.windows.items c.requires.in_period (omega arith)
    (omega (arith, c.min-until.ensures)) c.loop-from.invariant c.in_ok-add_window.ensures

pub returns-clause-follows : goal.returns-clause-follows
returns-clause-follows c =
    spelled_follows (cyclic_slot c.args.period c.args.first c.args.budget) c.args.slots c.loop-from.windows.items
    (all_cyclic c.args.period c.args.first c.args.budget c.args.slots c.loop-from.from c.loop-from.windows.items
    c.requires.in_period (omega arith) c.loop-from.invariant)
