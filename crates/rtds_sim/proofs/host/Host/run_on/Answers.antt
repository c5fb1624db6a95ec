use Rattle.std.proofs.Common.{◌≡◌, ℕ, ◌<◌, List, [], length, set, Vec, Global, refl, sym, ◌∙◌, arith, subst, inl, inr}
use Rattle.std.proofs.lemmas.Bool.{cases_eq}
use Rattle.std.proofs.lemmas.List.{length-set}
use Rattle.trace_file.specs.declared.event.Event.{Event}
use Rattle.rtds_sim.specs.declared.host_core.HostCore.{HostCore}
use Rattle.rtds_sim.specs.inner.Accounts.{core_at, IsReady}
use Rattle.rtds_sim.specs.inner.Lists.{list_at}
use Rattle.rtds_sim.specs.inner.Running.{IsUnderway, HasRun}
use Rattle.rtds_sim.proofs.CoreLists.{list_read, list_here, list_there}
use Rattle.rtds_sim.proofs.Cores.{core_read, core_here, core_there, each_core}
use Rattle.rtds_sim.proofs.host.Host.run_on.Goals as goal
use Rattle.rtds_sim.proofs.host.Host.run_on.Goals.{After-index_mut}

pub loop-c-init : goal.loop-c-init
loop-c-init c = record {
  run = λ sys budgets rows n k d run plan l. absurd (omega (arith, l));
  ready = λ d l. absurd (omega (arith, l));
  same = λ d l. refl;
  one_each = refl;
  lists = refl;
  empty = λ d l. c.requires.empty d;
  time = refl;
  taken = refl;
}

room : (c : After-index_mut) → c.loop-c.c < length c.loop-c.self.cores.items
room c = omega (arith, c.loop-c-test.true, c.len-c-end.ensures, c.args.self.now.cores.ok.0, c.loop-c.invariant.one_each)

-- the core as it was before all ran
read : (c : After-index_mut) → c.index_mut.result.now ≡ core_at c.args.self.now.cores.items c.loop-c.c
read c =
    core_read c.loop-c.self.cores.items c.loop-c.c c.index_mut.result.now (room c) c.index_mut.ensures.value
    ∙ c.loop-c.invariant.same c.loop-c.c (omega arith)

first_room : (c : After-index_mut) → c.loop-c.c < length c.args.self.now.cores.items
first_room c = omega (arith, room c, c.loop-c.invariant.one_each)

pub run_to-requires-clause-ready : goal.run_to-requires-clause-ready
run_to-requires-clause-ready c =
    let at = (goal.at.run_to-requires-clause-ready c).After-index_mut in
    subst (λ (x : ℕ). IsReady x c.index_mut.result.now) (sym c.loop-c.invariant.time)
    (subst (IsReady c.args.self.now.time) (sym (read at)) (c.requires.ready c.loop-c.c (first_room at)))

pub loop-c-preserved : goal.loop-c-preserved
loop-c-preserved c =
    let so_far = c.loop-c.invariant in
    let at = (goal.at.loop-c-preserved c).After-index_mut in
    let i : ℕ = c.loop-c.c in
    let from : ℕ = c.args.self.now.time in
    let to : ℕ = c.args.to in
    let first : List HostCore = c.args.self.now.cores.items in
    let old : List HostCore = c.loop-c.self.cores.items in
    let new : HostCore = c.run_to.new.self in
    let ran = c.in_ok-run_to.ensures in
    let lists : List (Vec Event Global) = c.loop-c.switches.lists.items in
    let told : Vec Event Global = c.run_to.new.told in
    let list_room : i < length lists = omega (arith, first_room at, so_far.lists, c.requires.one_each) in
    let own : List Event = c.index_mut-in-loop-c.result.now.items in
    let none_yet : own ≡ []
    = sym (list_read lists i c.index_mut-in-loop-c.result.now list_room c.index_mut-in-loop-c.ensures.value)
    ∙ so_far.empty i (omega arith) in
    record {
      run = λ sys budgets rows n k d run plan l u. elim (cases_eq d i) [
        | inl e ↦
            let u' : IsUnderway sys budgets rows n i run from to k (core_at first i)
            = subst (λ (z : ℕ). IsUnderway sys budgets rows n z run from to k (core_at first z)) e u in
            let h : HasRun sys budgets rows i run from to k new own told.items
            = subst (λ (x : ℕ). HasRun sys budgets rows i run x to k new own told.items) so_far.time
            (ran.run sys budgets rows n k run plan
            (subst (λ (x : ℕ). IsUnderway sys budgets rows n i run x to k c.index_mut.result.now) (sym so_far.time)
            (subst (IsUnderway sys budgets rows n i run from to k) (sym (read at)) u'))) in
            subst (λ (z : ℕ). HasRun sys budgets rows z run from to k (core_at (set old i new) z) []
            (list_at (set lists i told) z)) (sym e)
            (subst (λ (z : HostCore). HasRun sys budgets rows i run from to k z [] (list_at (set lists i told) i))
            (sym (core_here old i new (room at)))
            (subst (HasRun sys budgets rows i run from to k new []) (sym (list_here lists i told list_room))
            (subst (λ (es : List Event). HasRun sys budgets rows i run from to k new es told.items) none_yet h)))
        | inr ne ↦
            subst (λ (z : HostCore). HasRun sys budgets rows d run from to k z [] (list_at (set lists i told) d))
            (sym (core_there old i d new ne))
            (subst (HasRun sys budgets rows d run from to k (core_at old d) []) (sym (list_there lists i d told ne))
            (so_far.run sys budgets rows n k d run plan (omega (arith, l, ne)) u))
      ];
      ready = λ d l.
          each_core (λ e z. IsReady to z) old i new (room at) ran.ready d (λ ne. so_far.ready d (omega (arith, l, ne)));
      same =
          λ d l. core_there old i d new (λ e. omega (arith, e, l)) ∙ so_far.same d (omega (arith, l));
      one_each = length-set old i new ∙ so_far.one_each;
      lists = length-set lists i told ∙ so_far.lists;
      empty = λ d l. list_there lists i d told (λ e. omega (arith, e, l)) ∙ so_far.empty d (omega (arith, l));
      time = so_far.time;
      taken = so_far.taken;
    }

pub returns-clause-run : goal.returns-clause-run
returns-clause-run c sys budgets rows n k d run plan l =
    c.loop-c.invariant.run sys budgets rows n k d run plan
    (omega (arith, l, c.loop-c-test.false, c.len-c-end.ensures, c.args.self.now.cores.ok.0))

pub returns-clause-ready : goal.returns-clause-ready
returns-clause-ready c d l =
    c.loop-c.invariant.ready d
    (omega (
      arith,
      l,
      c.loop-c-test.false,
      c.len-c-end.ensures,
      c.args.self.now.cores.ok.0,
      c.loop-c.invariant.one_each,
    ))
