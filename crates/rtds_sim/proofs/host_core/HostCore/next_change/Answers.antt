use Rattle.std.proofs.Common.{ap, arith}
use Rattle.rtds_queues.specs.declared.account.Account.{Account}
use Rattle.rtds_sim.proofs.host_core.HostCore.next_change.Goals as goal

pub returns-in-Some-clause-later : goal.returns-in-Some-clause-later
returns-in-Some-clause-later c =
    omega (
      arith,
      c.min.ensures,
      c.requires.in_time,
      c.requires.some_left c.in-Some.v c.in-Some.is,
      ap (λ (a : Account). a.left) c.account.ensures,
    )
