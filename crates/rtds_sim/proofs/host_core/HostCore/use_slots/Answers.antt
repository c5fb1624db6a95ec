use Rattle.rtds_sim.proofs.Ready.{only_used}
use Rattle.rtds_sim.proofs.host_core.HostCore.use_slots.Goals as goal

pub returns-in-Some-clause-used : goal.returns-in-Some-clause-used
returns-in-Some-clause-used c u lu =
    only_used c.args.self.now.vcpus c.use_slots.new.self c.in-Some.v u c.args.slots _ c.in-Some.is
    (c.requires.holder c.in-Some.v c.in-Some.is) c.use_slots.ensures
