-- The text of the trace of a run.
use Rattle.std.specs.Prelude.{◌≡◌, ℕ, List}
use Rattle.csv_rows.specs.Printing.{text_of}
use Rattle.csv_rows.specs.Reading.{records_of}
use Rattle.tree_model.specs.View.{SystemView}
use Rattle.trace_file.specs.declared.event.Event.{Event}
use Rattle.trace_file.specs.File.{Spells}
use Rattle.trace_printer.specs.Printing.{printed_rows}
use Rattle.release_file.specs.declared.workload.Wake.{Wake}
use Rattle.rtds_trace.specs.RunTrace.{IsRunTrace}

-- it tells the trace of the run, and is read back as its events and as no others
pub record IsRunText (sys : SystemView) (budgets : List ℕ) (rows : List Wake) (n : ℕ)
    (text : List ℕ) : Type 0 where
  pub events : List Event
  pub run : IsRunTrace sys budgets rows n events
  pub told : text ≡ text_of (printed_rows sys events)
  pub reads_back : Spells sys (records_of text) events
  pub reads_only : (read : List Event) → Spells sys (records_of text) read → read ≡ events
