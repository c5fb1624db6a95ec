use Rattle.std.proofs.Common.{take}
use Rattle.trace_printer.specs.Printer.{HasPrinted}
use Rattle.trace_printer.specs.Printing.{unit_for}
use Rattle.trace_printer.proofs.printing.print_trace.Given as goal

-- the rows of the events so far
abbrev pub invariant-loop-n : goal.invariant-loop-n
invariant-loop-n l = HasPrinted l.fn.sys (unit_for l.events) (take l.n l.events) l.printer
