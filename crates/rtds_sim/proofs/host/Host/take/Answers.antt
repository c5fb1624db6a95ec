use Rattle.std.proofs.Common.{◌≡◌, ◌<◌, ℕ, List, length, set, refl, sym, ap, arith, subst, ◌∙◌}
use Rattle.std.proofs.lemmas.List.{length-set}
use Rattle.rtds_sim.specs.declared.host_core.HostCore.{HostCore}
use Rattle.rtds_sim.specs.inner.Accounts.{core_at, part_of, holder_of, TakesRow, IsReady}
use Rattle.rtds_sim.proofs.Cores.{core_read, core_here, core_there, each_core}
use Rattle.rtds_sim.proofs.Members.{part_of_same}
use Rattle.rtds_sim.proofs.TakenRows.{takes_numbers}
use Rattle.rtds_sim.proofs.host.Host.take.Goals as goal
use Rattle.rtds_sim.proofs.host.Host.take.Goals.{After-index_mut, After-take}

room : (c : After-index_mut) → c.core_of-core.result < length c.args.self.now.cores.items
room c = omega (arith, c.core_of-core.ensures.within, c.requires.one_each)

read : (c : After-index_mut) → c.index_mut.result.now ≡ core_at c.args.self.now.cores.items c.core_of-core.result
read c =
    core_read c.args.self.now.cores.items c.core_of-core.result c.index_mut.result.now (room c)
    c.index_mut.ensures.value

-- the core of the row is ready
ready : (c : After-index_mut) → IsReady c.args.row.at c.index_mut.result.now
ready c =
    subst (IsReady c.args.row.at) (sym (read c))
    (subst (λ (x : ℕ). IsReady x (core_at c.args.self.now.cores.items c.core_of-core.result)) (sym c.requires.now)
    (c.requires.ready c.core_of-core.result (room c)))

pub take-requires-clause-ready : goal.take-requires-clause-ready
take-requires-clause-ready c = ready (goal.at.take-requires-clause-ready c).After-index_mut

pub returns-clause-ready : goal.returns-clause-ready
returns-clause-ready c d l =
    let items : List HostCore = c.args.self.now.cores.items in
    let at = (goal.at.returns-clause-ready c).After-index_mut in
    each_core (λ e z. IsReady c.args.self.now.time z) items c.core_of-core.result c.take.new.self (room at)
    (subst (λ (x : ℕ). IsReady x c.take.new.self) c.requires.now c.take.ensures.ready) d
    (λ ne. c.requires.ready d (omega (arith, l, length-set items c.core_of-core.result c.take.new.self)))

pub returns-clause-takes : goal.returns-clause-takes
returns-clause-takes c =
    let items : List HostCore = c.args.self.now.cores.items in
    let at = (goal.at.returns-clause-takes c).After-index_mut in
    subst (λ (z : ℕ). TakesRow c.args.row (core_at items z).vcpus
    (core_at (set items c.core_of-core.result c.take.new.self) z).vcpus) c.core_of-core.ensures.is
    (subst (λ (z : HostCore). TakesRow c.args.row (core_at items c.core_of-core.result).vcpus z.vcpus)
    (sym (core_here items c.core_of-core.result c.take.new.self (room at)))
    (subst (λ (z : HostCore). TakesRow c.args.row z.vcpus c.take.new.self.vcpus) (read at) c.take.ensures.takes))

pub returns-clause-others : goal.returns-clause-others
returns-clause-others c d ne =
    core_there c.args.self.now.cores.items c.core_of-core.result d c.take.new.self
    (λ e. ne (e ∙ c.core_of-core.ensures.is))

-- its VCPU has it still
held : (c : After-take)
    → holder_of c.take.new.self ≡ holder_of (core_at c.args.self.now.cores.items c.core_of-core.result)
held c =
    let own : HostCore = c.index_mut.result.now in
    let new : HostCore = c.take.new.self in
    let at = (goal.at.After-take c).After-index_mut in
    ap (part_of new.vcpus) c.take.ensures.holder
    ∙ (part_of_same own.vcpus new.vcpus own.holder
    (λ v e. (takes_numbers c.args.row own.vcpus new.vcpus c.take.ensures.takes v ((ready at).holder v e)).part)
    ∙ ap holder_of (read at))

pub returns-clause-held : goal.returns-clause-held
returns-clause-held c d l =
    let items : List HostCore = c.args.self.now.cores.items in
    let at = goal.at.returns-clause-held c in
    each_core (λ e z. holder_of z ≡ holder_of (core_at items e)) items c.core_of-core.result c.take.new.self
    (room at.After-index_mut) (held at.After-take) d (λ ne. refl)
