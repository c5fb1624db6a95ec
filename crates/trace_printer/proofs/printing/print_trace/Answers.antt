use Rattle.std.proofs.Common.{◌≡◌, ◌∙◌, ◌∷◌, ◌++◌, [], ℕ, List, take, ap, sym, subst, arith}
use Rattle.std.proofs.lemmas.List.{take_all, take_more}
use Rattle.trace_file.specs.declared.event.Event.{Event}
use Rattle.trace_file.specs.declared.event.What.TheVariants.{End}
use Rattle.trace_file.specs.declared.unit.Unit.{Unit}
use Rattle.trace_printer.specs.Printer.{HasPrinted}
use Rattle.csv_rows.specs.Printing.{text_of}
use Rattle.csv_rows.specs.Reading.{records_of}
use Rattle.trace_file.specs.File.{Spells}
use Rattle.trace_file.specs.Rules.{Kept}
use Rattle.trace_printer.specs.Printing.{unit_for, printed_rows}
use Rattle.trace_printer.proofs.Printers.{own, as_from}
use Rattle.trace_printer.proofs.printing.print_trace.Goals as goal
use Rattle.trace_printer.proofs.printing.print_trace.Goals.{After-loop-n}

pub loop-n-init : goal.loop-n-init
loop-n-init c =
    subst (λ (u : Unit). HasPrinted c.args.sys.now u [] c.in_ok-printer.printer) c.unit_for-unit.ensures
    c.in_ok-printer.ensures

pub loop-n-preserved : goal.loop-n-preserved
loop-n-preserved c =
    let events = c.events-events.result.now in
    let i : ℕ = c.loop-n.n in
    let sys = c.args.sys.now in
    let unit = unit_for events in
    let so_far = c.loop-n.invariant in
    let took
    = c.in_ok-take.ensures c.loop-n.printer (take i events)
    (own sys unit (take i events) c.loop-n.printer so_far) in
    subst (λ (es : List Event). HasPrinted sys unit es c.take.new.self)
    (ap (λ (e : Event). take i events ++ e ∷ []) c.event_at.ensures
    ∙ sym (take_more events i (record { at = 0; core = 0; what = End }) c.loop-n-test.true))
    (as_from sys unit (take i events ++ c.event_at.result ∷ []) c.loop-n.printer c.take.new.self so_far.sys_is
    so_far.unit_is took)

-- all events are printed where the loop ends
all_printed : (c : After-loop-n)
    → HasPrinted c.args.sys.now (unit_for c.events-events.result.now) c.events-events.result.now c.loop-n.printer
all_printed c =
    let events = c.events-events.result.now in
    subst (λ (es : List Event). HasPrinted c.args.sys.now (unit_for events) es c.loop-n.printer)
    (take_all c.loop-n.n events (omega arith)) c.loop-n.invariant

pub returns-clause-text : goal.returns-clause-text
returns-clause-text c =
    let all = all_printed (goal.at.returns-clause-text c).After-loop-n in
    subst (λ (es : List Event). c.finish.result.items ≡ text_of (printed_rows c.args.sys.now es))
    c.events-events.ensures (c.finish.ensures.text c.args.sys.now c.events-events.result.now all)

pub returns-clause-reads_back : goal.returns-clause-reads_back
returns-clause-reads_back c =
    let events = c.events-events.result.now in
    let all = all_printed (goal.at.returns-clause-reads_back c).After-loop-n in
    let kept : Kept c.args.sys.now events
    = subst (λ (es : List Event). Kept c.args.sys.now es) (sym c.events-events.ensures) c.requires in
    subst (λ (es : List Event). Spells c.args.sys.now (records_of c.finish.result.items) es) c.events-events.ensures
    (c.finish.ensures.reads_back c.args.sys.now events all c.check_system.ensures kept)
