-- What a printer has printed.
use Rattle.std.proofs.Common.{◌≡◌, ◌∙◌, ◌∷◌, ◌++◌, [], ℕ, List, length, map, ap, sym, subst, arith, inl, inr}
use Rattle.std.proofs.lemmas.Bool.{cases_lt}
use Rattle.std.proofs.lemmas.List.{map-append, get_or_append_left, get_or_push, length_push}
use Rattle.csv.specs.Writing.{default_writer, row_text}
use Rattle.csv_rows.specs.Printing.{text_of}
use Rattle.csv_rows.proofs.Writing.{text_more}
use Rattle.tree_model.specs.View.{SystemView}
use Rattle.trace_file.specs.declared.event.Event.{Event}
use Rattle.trace_file.specs.declared.event.What.TheVariants.{End}
use Rattle.trace_printer.specs.declared.printing.TracePrinter.{TracePrinter}
use Rattle.trace_file.specs.declared.unit.Unit.{Unit}
use Rattle.trace_printer.specs.inner.Endings.{FitsWord}
use Rattle.trace_printer.specs.Printer.{AllFit, HasPrinted}
use Rattle.trace_printer.specs.Printing.{header_row, event_row}

-- one row more
pub row_more : (sys : SystemView) (unit : Unit) (events : List Event) (e : Event)
    → text_of (header_row unit ∷ map (event_row sys unit) events) ++ row_text default_writer (event_row sys unit e)
    ≡ text_of (header_row unit ∷ map (event_row sys unit) (events ++ e ∷ []))
row_more sys unit events e =
    sym (text_more (header_row unit ∷ map (event_row sys unit) events) (event_row sys unit e))
    ∙ ap (λ (z : List (List (List ℕ))). text_of (header_row unit ∷ z))
    (sym (map-append (event_row sys unit) events (e ∷ [])))

pub fit_more : (sys : SystemView) (events : List Event) (e : Event) → AllFit sys events → FitsWord sys e.core e.what
    → AllFit sys (events ++ e ∷ [])
fit_more sys events e all one i l = elim (cases_lt i (length events)) [
  | inl q ↦
      subst (λ (x : Event). FitsWord sys x.core x.what)
      (sym (get_or_append_left events (e ∷ []) (record { at = 0; core = 0; what = End }) i q)) (all i q)
  | inr q ↦
      subst (λ (x : Event). FitsWord sys x.core x.what) (sym (get_or_push events e
      (record { at = 0; core = 0; what = End }) i (let m = length_push events e in omega (arith, l, q, m))))
      one
]

-- what a printer has printed, in its own unit and over its own system
pub own : (sys : SystemView) (unit : Unit) (events : List Event) (p : TracePrinter) → HasPrinted sys unit events p
    → HasPrinted p.endings.sys.now p.unit events p
own sys unit events p h =
    subst (λ (s : SystemView). HasPrinted s p.unit events p) (sym h.sys_is)
    (subst (λ (u : Unit). HasPrinted sys u events p) (sym h.unit_is) h)

pub as_from : (sys : SystemView) (unit : Unit) (events : List Event) (start now : TracePrinter)
    → start.endings.sys.now ≡ sys → start.unit ≡ unit → HasPrinted start.endings.sys.now start.unit events now
    → HasPrinted sys unit events now
as_from sys unit events start now s u h =
    subst (λ (s : SystemView). HasPrinted s unit events now) s
    (subst (λ (u : Unit). HasPrinted start.endings.sys.now u events now) u h)
