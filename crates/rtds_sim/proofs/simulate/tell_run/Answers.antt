use Rattle.std.proofs.Common.{◌≡◌, ℕ, suc, ◌+◌, ◌-◌, ◌<◌, ◌≤◌, ◌++◌, List, [], ◌∷◌, length, Option, Some, None, refl, sym, ◌∙◌, ap, arith, subst, cond, Bool}
use Rattle.std.proofs.lemmas.Option.{none-some, same_Some}
use Rattle.slot_model.specs.Run.{held}
use Rattle.tree_model.specs.Tree.{run_at}
use Rattle.trace_file.specs.declared.event.Event.{Event}
use Rattle.trace_file.specs.declared.event.What.{What}
use Rattle.trace_file.specs.declared.event.What.TheVariants.{Stop, End}
use Rattle.rtds_sim.specs.declared.host_core.HostCore.{HostCore}
use Rattle.rtds_sim.specs.declared.host.Host.{Host}
use Rattle.release_file.specs.declared.workload.Wake.{Wake as Row}
use Rattle.release_file.specs.Workload.{row_at}
use Rattle.rtds_model.specs.Rtds.{RtdsRun}
use Rattle.trace_file.specs.Taker.{Took}
use Rattle.rtds_trace.specs.Printed.{moment_of_slot, printed_below, gathered, row_event_at, stop_at, switch_at, switch_to, on_core_at, holder_before, is_blocked_one, holder_left, on_at, printed, AreBefore}
use Rattle.rtds_sim.specs.inner.Accounts.{core_at, core_left, holder_of, gives_up, stop_of, AreOn, IsReady}
use Rattle.rtds_sim.specs.inner.Running.{RowsFrom, HasRun}
use Rattle.rtds_sim.specs.inner.Lists.{list_at}
use Rattle.rtds_sim.specs.inner.Telling.{told_by, AreAtSlots}
use Rattle.rtds_sim.proofs.Members.{fresh_ready}
use Rattle.rtds_model.proofs.Runs.{rtds_run, rtds_run-is}
use Rattle.rtds_trace.proofs.Gathered.{gathered-same, took_nothing, took_same, took_more, printed_below-zero}
use Rattle.rtds_sim.proofs.Visits.{gives_up_is, none_blocks, left_is, left_vcpus, left_ready}
use Rattle.rtds_sim.proofs.Telling.{printed_on}
use Rattle.rtds_sim.proofs.Standing.{Visit, standing_start, standing_next, visit_rows}
use Rattle.release_file.proofs.Rows.{ordered}
use Rattle.rtds_sim.proofs.simulate.tell_run.Goals as goal
use Rattle.rtds_sim.proofs.simulate.tell_run.Goals.{After-take_rows, After-next_row-next}

pub loop-host-init : goal.loop-host-init
loop-host-init g c =
    let made = c.in_ok-host.ensures in
    let sys = c.args.sys.now in
    let run = rtds_run sys c.args.plan.now c.args.wakes.now c.args.slots in
    record {
      stands =
          standing_start sys c.new.ensures.system c.args.plan.now c.requires.plan c.args.wakes.now run
          c.in_ok-host.host made.time made.taken made.one_each made.cores;
      told =
          took_same g.T.EventTaker.has_taken c.args.events.now c.args.events.now []
          (printed_below sys c.args.wakes.now run c.in_ok-host.host.time)
          (sym (ap (printed_below sys c.args.wakes.now run) made.time
          ∙ printed_below-zero sys c.args.wakes.now run))
          (took_nothing g.T.EventTaker.has_taken c.args.events.now);
      ready = λ d l.
          subst (λ (x : ℕ). IsReady x (core_at c.in_ok-host.host.cores.items d)) (sym made.time)
          (subst (IsReady 0) (sym (made.cores d (omega (arith, l, made.one_each))))
          (fresh_ready sys c.new.ensures.system c.args.plan.now c.requires.plan d));
      in_slots = omega (arith, made.time);
      one_each = c.in_ok-switches.ensures.one_each;
      empty = c.in_ok-switches.ensures.empty;
    }

-- the run of the workload
abbrev runs_of : (g : _) → After-take_rows g → List (List (Option ℕ))
runs_of g c = rtds_run c.args.sys.now c.args.plan.now c.args.wakes.now c.args.slots

-- the rows at the slot are taken, and the cores are as before
visited : (g : _) (c : After-take_rows g)
    → Visit c.args.sys.now c.args.plan.now c.args.wakes.now (runs_of g c) c.take_rows.new.self
visited g c =
    let took = c.take_rows.ensures in
    visit_rows c.args.sys.now c.args.plan.now c.requires.plan c.args.wakes.now c.requires.workload (runs_of g c)
    c.loop-host.host c.take_rows.new.self c.loop-host.invariant.stands took.time took.one_each took.held
    took.in_rows took.later took.now took.no_more took.vcpus

few : (g : _) (c : After-take_rows g) → length c.take_rows.new.self.cores.items ≤ 64
few g c = omega (arith, (visited g c).stand.one_each, c.new.ensures.system.few_cores)

in_slots : (g : _) (c : After-take_rows g) → c.take_rows.new.self.time < c.args.slots
in_slots g c = omega (arith, c.take_rows.ensures.time, c.loop-host-test.true)

-- the slot up to which the cores run is a later one
next_later : (g : _) (c : After-next_row-next g) → c.take_rows.new.self.time < c.next_row-next.result
next_later g c =
    let at = (goal.at.After-next_row-next g c).After-take_rows in
    let left = c.stop_blocked.ensures in
    let taken : AreBefore c.args.wakes.now c.take_rows.new.self.taken (suc c.take_rows.new.self.time)
    = (visited g at).taken in
    let within : c.take_rows.new.self.time < c.args.slots = in_slots g at in
    omega (
      arith,
      left.time,
      c.next_row-next.ensures.later (omega (arith, left.time, within)) (λ m. omega (
        arith,
        left.time,
        left.taken,
        taken.to_come c.stop_blocked.new.self.taken (omega (arith, left.taken)) m,
      )),
    )

-- a core gives its VCPU up where that blocks at the slot
gives_up_at : (g : _) (c : After-take_rows g) (d : ℕ) → d < length c.args.sys.now.cores
    → gives_up (core_at c.take_rows.new.self.cores.items d)
    ≡ is_blocked_one c.args.wakes.now c.take_rows.new.self.time
    (holder_before (run_at (runs_of g c) d) c.take_rows.new.self.time)
gives_up_at g c d l =
    let host : Host = c.take_rows.new.self in
    let visit = visited g c in
    gives_up_is c.args.sys.now c.args.plan.now c.args.wakes.now d (run_at (runs_of g c) d) host.time host.taken
    visit.taken (core_at host.cores.items d) (visit.stand.cores d l)
    (c.take_rows.ensures.ready d (omega (arith, l, visit.stand.one_each))).holder

-- where no row was taken, no VCPU that has a core is blocked
pub stop_blocked-requires-clause-awake : goal.stop_blocked-requires-clause-awake
stop_blocked-requires-clause-awake g c same d l =
    let at = (goal.at.stop_blocked-requires-clause-awake g c).After-take_rows in
    let run = rtds_run-is c.args.sys.now c.args.plan.now c.args.wakes.now c.args.slots in
    let host : Host = c.take_rows.new.self in
    let visit = visited g at in
    let in_it : d < length c.args.sys.now.cores = omega (arith, l, visit.stand.one_each) in
    let before : AreBefore c.args.wakes.now host.taken host.time
    = subst (λ (k : ℕ). AreBefore c.args.wakes.now k host.time) same
    (subst (AreBefore c.args.wakes.now c.loop-host.host.taken) (sym c.take_rows.ensures.time)
    c.loop-host.invariant.stands.before) in
    gives_up_at g at d in_it
    ∙ none_blocks c.args.sys.now c.args.plan.now c.args.wakes.now c.args.slots d (run_at (runs_of g at) d)
    (run.cores d in_it) host.time host.taken before visit.taken (in_slots g at)

pub stop_blocked-requires-clause-few : goal.stop_blocked-requires-clause-few
stop_blocked-requires-clause-few g c = few g (goal.at.stop_blocked-requires-clause-few g c).After-take_rows

-- a switch stands at its slot
at_slots : (rows : List Row) (runs : List (List (Option ℕ))) → AreAtSlots (switch_at rows runs)
at_slots rows runs y c event is = go (switch_to (holder_left rows (run_at runs c) y) (held (run_at runs c) y)) is
  where
    go : (o : Option What) → on_core_at c y o ≡ Some event → event.at ≡ moment_of_slot y
    go None e = absurd (none-some event e)
    go (Some what) e = sym (ap (λ (z : Event). z.at) (same_Some (on_at c y what) event e))

pub run_on-requires-clause-few : goal.run_on-requires-clause-few
run_on-requires-clause-few g c =
    omega (
      arith,
      few g (goal.at.run_on-requires-clause-few g c).After-take_rows,
      c.stop_blocked.ensures.one_each,
    )

pub run_on-requires-clause-ready : goal.run_on-requires-clause-ready
run_on-requires-clause-ready g c d l =
    let host : Host = c.take_rows.new.self in
    let in_it : d < length host.cores.items = omega (arith, l, c.stop_blocked.ensures.one_each) in
    subst (λ (x : ℕ). IsReady x (core_at c.stop_blocked.new.self.cores.items d)) (sym c.stop_blocked.ensures.time)
    (subst (IsReady host.time) (sym (c.in_ok-stop_blocked.ensures.left d in_it))
    (left_ready host.time (core_at host.cores.items d) (c.take_rows.ensures.ready d in_it)))

pub run_on-requires-clause-one_each : goal.run_on-requires-clause-one_each
run_on-requires-clause-one_each g c =
    omega (
      arith,
      c.loop-host.invariant.one_each,
      (visited g (goal.at.run_on-requires-clause-one_each g c).After-take_rows).stand.one_each,
      c.stop_blocked.ensures.one_each,
    )

pub run_on-requires-clause-later : goal.run_on-requires-clause-later
run_on-requires-clause-later g c =
    let later : c.take_rows.new.self.time < c.next_row-next.result
    = next_later g (goal.at.run_on-requires-clause-later g c).After-next_row-next in
    omega (arith, later, c.stop_blocked.ensures.time)

pub loop-host-smaller : goal.loop-host-smaller
loop-host-smaller g c =
    let later : c.take_rows.new.self.time < c.next_row-next.result
    = next_later g (goal.at.loop-host-smaller g c).After-next_row-next in
    omega (
      arith,
      later,
      c.take_rows.ensures.time,
      c.in_ok-run_on.ensures.time,
      c.next_row-next.ensures.in_slots,
      c.loop-host-test.true,
    )

pub loop-host-preserved : goal.loop-host-preserved
loop-host-preserved g c =
    let sys = c.args.sys.now in
    let budgets = c.args.plan.now in
    let rows = c.args.wakes.now in
    let runs = rtds_run sys budgets rows c.args.slots in
    let at = goal.at.loop-host-preserved g c in
    let took = c.take_rows.ensures in
    let visit : Visit sys budgets rows runs c.take_rows.new.self = visited g at.After-take_rows in
    let is : RtdsRun sys budgets rows c.args.slots runs = rtds_run-is sys budgets rows c.args.slots in
    let host : Host = c.take_rows.new.self in
    let left : Host = c.stop_blocked.new.self in
    let x : ℕ = host.time in
    let k : ℕ = host.taken in
    let to : ℕ = c.next_row-next.result in
    let cores : ℕ = length sys.cores in
    let time : left.time ≡ x = c.stop_blocked.ensures.time in
    let taken : left.taken ≡ k = c.stop_blocked.ensures.taken in
    let later : x < to = next_later g at.After-next_row-next in
    let rows_later : RowsFrom rows k to
    = λ i a b. omega (
      arith,
      ordered sys rows c.requires.workload k i a b,
      c.next_row-next.ensures.row (omega (arith, taken, a, b)),
      ap (λ (z : ℕ). (row_at rows z).at) taken,
    ) in
    -- each core has run
    let has_run : (d : ℕ) → d < cores
    → HasRun sys budgets rows d (run_at runs d) x to k (core_at c.run_on.new.self.cores.items d) []
    (list_at c.run_on.new.switches.lists.items d)
    = λ d l.
    let core : HostCore = core_at host.cores.items d in
    let in_it : d < length host.cores.items = omega (arith, l, visit.stand.one_each) in
    let left_core : core_at left.cores.items d ≡ core_left core = c.in_ok-stop_blocked.ensures.left d in_it in
    subst (λ (y : ℕ). HasRun sys budgets rows d (run_at runs d) y to k (core_at c.run_on.new.self.cores.items d) []
    (list_at c.run_on.new.switches.lists.items d)) time
    (c.in_ok-run_on.ensures.run sys budgets rows c.args.slots k d (run_at runs d) c.requires.plan
    (omega (arith, in_it, c.stop_blocked.ensures.one_each)) (record {
      is_run = is.cores d l;
      fits = c.next_row-next.ensures.in_slots;
      taken = subst (λ (y : ℕ). AreBefore rows k (suc y)) (sym time) visit.taken;
      rows_later = rows_later;
      are =
          subst (λ (y : ℕ). AreOn sys budgets rows d (run_at runs d) y k (core_at left.cores.items d).vcpus) (sym time)
          (subst (AreOn sys budgets rows d (run_at runs d) x k)
          (sym (ap (λ (z : HostCore). z.vcpus) left_core ∙ left_vcpus core)) (visit.stand.cores d l).are);
      holder_is =
          ap holder_of left_core
          ∙ (left_is sys budgets rows d (run_at runs d) x k visit.taken core (visit.stand.cores d l)
          (took.ready d in_it).holder
          ∙ ap (holder_left rows (run_at runs d)) (sym time));
    })) in
    let has_taken = g.T.EventTaker.has_taken in
    let stops : List Event = gathered (stop_of host) (length host.cores.items) in
    let of_rows : List Event = gathered (row_event_at sys rows x) (length rows) in
    let f : ℕ → ℕ → Option Event = switch_at rows runs in
    let switches : List Event = told_by f x cores (to - x) in
    let rows_told : Took has_taken c.stop_blocked.new.events c.print_rows.new.events of_rows
    = c.in_ok-print_rows.ensures x
    (λ i l. omega (arith, took.time, c.loop-host.invariant.stands.before.past i l))
    (λ i a b. took.now i a (omega (arith, b, taken)) ∙ sym took.time)
    (λ i a b. omega (arith, visit.taken.to_come i (omega (arith, a, taken)) b)) in
    let each_told : length c.run_on.new.switches.lists.items ≡ cores
    = c.in_ok-run_on.ensures.lists ∙ c.loop-host.invariant.one_each in
    let switches_told : Took has_taken c.print_rows.new.events c.tell.new.events switches =
    subst (λ (m : ℕ). Took has_taken c.print_rows.new.events c.tell.new.events (told_by f x m (to - x))) each_told
    (c.in_ok-tell.ensures.told f x (to - x) (at_slots rows runs)
    (λ d l. (has_run d (omega (arith, l, each_told))).told_is)) in
    let at_first : stops ++ of_rows ≡ gathered (stop_at rows runs x) cores ++ of_rows
    = ap (λ (es : List Event). es ++ of_rows)
    (ap (gathered (stop_of host)) visit.stand.one_each
    ∙ gathered-same (stop_of host) (stop_at rows runs x) cores
    (λ d l. ap (λ (q : Bool). cond q (Some (on_at d x Stop)) None) (gives_up_at g at.After-take_rows d l))) in
    let some : x + suc (to - x - 1) ≡ to = omega (arith, later) in
    let some' : suc (to - x - 1) ≡ to - x = omega (arith, later) in
    let printed_to : printed_below sys rows runs to
    ≡ printed_below sys rows runs x ++ ((stops ++ of_rows) ++ switches)
    =
    ap (printed_below sys rows runs) (sym some)
    ∙ (printed_on sys budgets rows c.args.slots runs is x k to c.next_row-next.ensures.in_slots visit.taken rows_later
    (to - x - 1) (omega (arith, some))
    ∙ (ap (λ (m : ℕ). printed_below sys rows runs x
    ++ ((gathered (stop_at rows runs x) cores ++ of_rows) ++ told_by f x cores m)) some'
    ∙ ap (λ (es : List Event). printed_below sys rows runs x ++ (es ++ switches)) (sym at_first))) in
    let told_first : Took has_taken c.loop-host.events c.print_rows.new.events (stops ++ of_rows)
    = took_more has_taken c.loop-host.events c.stop_blocked.new.events c.print_rows.new.events stops of_rows
    c.in_ok-stop_blocked.ensures.events rows_told in
    let told_all : Took has_taken c.loop-host.events c.tell.new.events ((stops ++ of_rows) ++ switches)
    = took_more has_taken c.loop-host.events c.print_rows.new.events c.tell.new.events (stops ++ of_rows) switches
    told_first switches_told in
    record {
      stands =
          standing_next sys budgets rows runs x k to visit.taken later rows_later c.run_on.new.self
          c.in_ok-run_on.ensures.time (c.in_ok-run_on.ensures.taken ∙ taken)
          (record {
            one_each = c.in_ok-run_on.ensures.one_each ∙ (c.stop_blocked.ensures.one_each ∙ visit.stand.one_each);
            cores = λ d l. (has_run d l).stands;
          });
      told =
          subst (λ (y : ℕ). Took has_taken c.args.events.now c.tell.new.events (printed_below sys rows runs y))
          (sym c.in_ok-run_on.ensures.time)
          (took_same has_taken c.args.events.now c.tell.new.events
          (printed_below sys rows runs x ++ ((stops ++ of_rows) ++ switches)) (printed_below sys rows runs to)
          (sym printed_to)
          (took_more has_taken c.args.events.now c.loop-host.events c.tell.new.events (printed_below sys rows runs x)
          ((stops ++ of_rows) ++ switches)
          (subst (λ (y : ℕ). Took has_taken c.args.events.now c.loop-host.events (printed_below sys rows runs y))
          (sym took.time) c.loop-host.invariant.told) told_all));
      ready = c.in_ok-run_on.ensures.ready;
      in_slots = omega (arith, c.in_ok-run_on.ensures.time, c.next_row-next.ensures.in_slots);
      one_each = c.in_ok-tell.ensures.one_each ∙ each_told;
      empty = c.in_ok-tell.ensures.empty;
    }

pub returns-clause-trace : goal.returns-clause-trace
returns-clause-trace g c =
    let run : List (List (Option ℕ)) = rtds_run c.args.sys.now c.args.plan.now c.args.wakes.now c.args.slots in
    let end : c.loop-host.host.time ≡ c.args.slots
    = omega (arith, c.loop-host.invariant.in_slots, c.loop-host-test.false) in
    let below : List Event = printed_below c.args.sys.now c.args.wakes.now run c.args.slots in
    let ended : Took g.T.EventTaker.has_taken c.loop-host.events c.take.new.self (on_at 0 c.args.slots End ∷ [])
    = subst (λ (m : ℕ). Took g.T.EventTaker.has_taken c.loop-host.events c.take.new.self
    (record { at = m; core = 0; what = End } ∷ [])) c.moment_of_slot.ensures c.in_ok-take.ensures in (
      printed c.args.sys.now c.args.wakes.now run c.args.slots,
      (run, rtds_run-is c.args.sys.now c.args.plan.now c.args.wakes.now c.args.slots, refl),
      took_more g.T.EventTaker.has_taken c.args.events.now c.loop-host.events c.take.new.self below
          (on_at 0 c.args.slots End ∷ [])
          (subst (λ (y : ℕ). Took g.T.EventTaker.has_taken c.args.events.now c.loop-host.events
          (printed_below c.args.sys.now c.args.wakes.now run y)) end c.loop-host.invariant.told) ended,
    )
