use Rattle.std.proofs.Common.{◌≡◌, ℕ, [], length, Option, Some, sym, ◌∙◌, ap, arith}
use Rattle.trace_file.specs.declared.event.Event.{Event}
use Rattle.release_file.specs.declared.workload.Wake.{Wake}
use Rattle.release_file.specs.Workload.{row_at}
use Rattle.rtds_trace.specs.Printed.{event_of, gathered, row_event_at}
use Rattle.rtds_trace.proofs.Gathered.{gathered-none, gathered-rest, took_nothing, took_same, took_one}
use Rattle.rtds_trace.proofs.Rows.{row_none, row_some}
use Rattle.rtds_sim.proofs.rows.print_rows.Goals as goal

pub loop-i-init : goal.loop-i-init
loop-i-init g c x past now later =
    let f : ℕ → Option Event = row_event_at c.args.sys.now c.args.rows.now x in
    took_same g.T.EventTaker.has_taken c.args.events.now c.args.events.now [] (gathered f c.args.from)
    (sym (gathered-none f c.args.from
    (λ i l. row_none c.args.sys.now c.args.rows.now x i (λ e. omega (arith, past i l)))))
    (took_nothing g.T.EventTaker.has_taken c.args.events.now)

pub loop-i-preserved : goal.loop-i-preserved
loop-i-preserved g c x past now later =
    let f : ℕ → Option Event = row_event_at c.args.sys.now c.args.rows.now x in
    let is : c.event_of.result ≡ event_of c.args.sys.now (row_at c.args.rows.now c.loop-i.i)
    = c.event_of.ensures ∙ ap (λ (r : Wake). event_of c.args.sys.now r) c.row_at.ensures in
    took_one g.T.EventTaker.has_taken f c.loop-i.i c.args.events.now c.loop-i.events c.take.new.self
    (Some c.event_of.result) (c.loop-i.invariant x past now later)
    (row_some c.args.sys.now c.args.rows.now x c.loop-i.i (now c.loop-i.i c.loop-i.auto.i c.loop-i-test.true)
    ∙ ap Some (sym is)) c.in_ok-take.ensures

pub returns : goal.returns
returns g c x past now later =
    let f : ℕ → Option Event = row_event_at c.args.sys.now c.args.rows.now x in
    let rest : gathered f (length c.args.rows.now) ≡ gathered f c.loop-i.i
    = gathered-rest f c.loop-i.i (length c.args.rows.now)
    (omega (arith, c.loop-i.auto.i-end c.requires.in_turn, c.requires.in_rows))
    (λ i a b. row_none c.args.sys.now c.args.rows.now x i
    (λ e. omega (arith, c.loop-i-test.false, later i (omega (arith, c.loop-i-test.false)) b))) in
    took_same g.T.EventTaker.has_taken c.args.events.now c.loop-i.events (gathered f c.loop-i.i)
    (gathered f (length c.args.rows.now)) (sym rest) (c.loop-i.invariant x past now later)
