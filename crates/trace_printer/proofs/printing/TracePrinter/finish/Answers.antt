use Rattle.std.proofs.Common.{List, ℕ, subst, sym}
use Rattle.csv_rows.specs.Reading.{records_of}
use Rattle.trace_file.specs.File.{Spells}
use Rattle.trace_printer.proofs.ReadBack.{printed_spells}
use Rattle.trace_printer.proofs.printing.TracePrinter.finish.Goals as goal

pub returns-clause-text : goal.returns-clause-text
returns-clause-text c sys events printed = printed.written

pub returns-clause-reads_back : goal.returns-clause-reads_back
returns-clause-reads_back c sys events printed system kept =
    subst (λ (z : List ℕ). Spells sys (records_of z) events) (sym printed.written)
    (printed_spells sys events system kept printed.fits)
