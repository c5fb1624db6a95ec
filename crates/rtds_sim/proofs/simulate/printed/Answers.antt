use Rattle.std.proofs.Common.{◌≡◌, [], ◌∙◌, sym, ap, subst}
use Rattle.trace_file.specs.declared.unit.Unit.{Unit}
use Rattle.trace_file.specs.declared.unit.Unit.TheVariants.{Microseconds}
use Rattle.trace_printer.specs.Printer.{HasPrinted}
use Rattle.trace_printer.specs.Printing.{unit_for}
use Rattle.trace_file.specs.File.{Spells}
use Rattle.trace_file.proofs.Same.{same_events}
use Rattle.csv_rows.specs.Reading.{records_of}
use Rattle.trace_printer.proofs.Printers.{own, as_from}
use Rattle.rtds_trace.specs.RunTrace.{IsRunTrace}
use Rattle.rtds_trace.proofs.RunTraces.{run_trace}
use Rattle.rtds_trace.proofs.Traced.{whole_unit}
use Rattle.rtds_sim.proofs.simulate.printed.Goals as goal

pub returns : goal.returns
returns c =
    let sys = c.args.sys.now in
    let budgets = c.args.plan.now in
    let rows = c.args.wakes.now in
    let n = c.args.slots in
    let system = c.in_ok-tell_run.ensures.system in
    let (told, trace, took) = c.in_ok-tell_run.ensures.trace in
    let (runs, is, events) = trace in
    let made : HasPrinted sys Microseconds [] c.in_ok-rows.rows = c.in_ok-rows.ensures in
    let all : HasPrinted sys Microseconds told c.tell_run.new.events
    = as_from sys Microseconds told c.in_ok-rows.rows c.tell_run.new.events made.sys_is made.unit_is
    (took c.in_ok-rows.rows [] (own sys Microseconds [] c.in_ok-rows.rows made)) in
    let whole : unit_for told ≡ Microseconds = ap unit_for events ∙ whole_unit sys rows runs n in
    let printed : HasPrinted sys (unit_for told) told c.tell_run.new.events
    = subst (λ (u : Unit). HasPrinted sys u told c.tell_run.new.events) (sym whole) all in
    let run : IsRunTrace sys budgets rows n told
    = run_trace sys system budgets c.requires.plan rows c.requires.workload n c.requires.short told trace in
    let reads_back : Spells sys (records_of c.finish.result.items) told
    = c.finish.ensures.reads_back sys told printed system run.kept in
    record {
      text = record {
        events = told;
        run = run;
        told = c.finish.ensures.text sys told printed;
        reads_back = reads_back;
        reads_only = λ read is. same_events sys (records_of c.finish.result.items) read told is reads_back;
      };
    }
