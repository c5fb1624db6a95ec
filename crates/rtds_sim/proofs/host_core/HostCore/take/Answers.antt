use Rattle.std.proofs.Common.{refl}
use Rattle.rtds_sim.specs.inner.Accounts.{TakesRow}
use Rattle.rtds_sim.proofs.TakenRows.{ready_taken, takes_set, takes_none}
use Rattle.rtds_sim.proofs.host_core.HostCore.take.Goals as goal
use Rattle.rtds_sim.proofs.host_core.HostCore.take.Goals.{After-take_row}

pub take_row-requires-clause-is_vcpu : goal.take_row-requires-clause-is_vcpu
take_row-requires-clause-is_vcpu c = (c.place_of.ensures.some c.in-Some.v c.in-Some.is).is_vcpu

pub take_row-requires-clause-period : goal.take_row-requires-clause-period
take_row-requires-clause-period c =
    (c.requires.ready.sound c.in-Some.v (c.place_of.ensures.some c.in-Some.v c.in-Some.is).is_vcpu).numbers.in_limit

takes : (c : After-take_row) → TakesRow c.args.row c.args.self.now.vcpus c.take_row.new.vcpus
takes c =
    takes_set c.args.row c.args.self.now.vcpus c.take_row.new.vcpus c.requires.ready.in_turn c.in-Some.v
    (c.place_of.ensures.some c.in-Some.v c.in-Some.is) c.take_row.ensures

pub returns-in-Some-clause-takes : goal.returns-in-Some-clause-takes
returns-in-Some-clause-takes c = takes (goal.at.returns-in-Some-clause-takes c).After-take_row

pub returns-in-Some-clause-ready : goal.returns-in-Some-clause-ready
returns-in-Some-clause-ready c =
    let old = c.args.self.now in
    ready_taken c.args.row old (record old { vcpus = c.take_row.new.vcpus }) c.requires.ready
    (takes (goal.at.returns-in-Some-clause-ready c).After-take_row) refl

pub returns-in_default-clause-takes : goal.returns-in_default-clause-takes
returns-in_default-clause-takes c =
    takes_none c.args.row c.args.self.now.vcpus (c.place_of.ensures.none c.in_default.is)
