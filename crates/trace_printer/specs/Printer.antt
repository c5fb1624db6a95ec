-- What has been printed of a trace.
use Rattle.std.specs.Prelude.{◌≡◌, ℕ, ◌<◌, List, ◌∷◌, length, map}
use Rattle.csv_rows.specs.Printing.{text_of}
use Rattle.tree_model.specs.View.{SystemView}
use Rattle.trace_file.specs.declared.event.Event.{Event}
use Rattle.trace_printer.specs.declared.printing.TracePrinter.{TracePrinter}
use Rattle.trace_file.specs.declared.unit.Unit.{Unit}
use Rattle.trace_printer.specs.inner.Endings.{AreEndings, FitsWord}
use Rattle.trace_file.specs.Events.{event_at}
use Rattle.trace_printer.specs.Printing.{header_row, event_row}

-- the fields of each known event fit its word
abbrev pub AllFit : SystemView → List Event → Type 0
AllFit sys events =
    (i : ℕ) → i < length events →
    FitsWord sys (event_at events i).core (event_at events i).what

-- the header and the rows of these events are printed, in this unit
pub record HasPrinted (sys : SystemView) (unit : Unit) (events : List Event) (p : TracePrinter) :
    Type 0 where
  pub unit_is : p.unit ≡ unit
  pub sys_is : p.endings.sys.now ≡ sys
  pub are : AreEndings sys p.endings.made.items
  pub written : p.text.items ≡ text_of (header_row unit ∷ map (event_row sys unit) events)
  pub fits : AllFit sys events
