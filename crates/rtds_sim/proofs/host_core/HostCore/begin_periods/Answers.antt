use Rattle.std.proofs.Common.{arith}
use Rattle.rtds_queues.specs.Accounts.{account_at}
use Rattle.rtds_queues.proofs.Beginning.{begun_not}
use Rattle.rtds_sim.proofs.host_core.HostCore.begin_periods.Goals as goal

pub returns-then-at-end-clause-begun : goal.returns-then-at-end-clause-begun
returns-then-at-end-clause-begun c v l =
    begun_not (account_at c.args.self.now.vcpus v) c.args.at
    (λ e. omega (arith, e, c.requires.first.least v l, c.if-at-end.true))

pub returns-then-at-end-clause-ends : goal.returns-then-at-end-clause-ends
returns-then-at-end-clause-ends c v l = omega (arith, c.requires.first.least v l, c.if-at-end.true)

pub begin_periods-requires-clause-ends : goal.begin_periods-requires-clause-ends
begin_periods-requires-clause-ends c v l = omega (arith, c.requires.first.least v l, c.requires.ends)
