-- The rows of a printed trace spell its events.
use Rattle.std.proofs.Common.{◌≡◌, ◌<◌, ◌≤◌, ◌+◌, ◌*◌, ◌/◌, ◌%◌, ◌^◌, ◌==◌, ℕ, zero, suc, Bool, true, false, cond, not, ◌&&◌, List, [], ◌∷◌, ◌++◌, length, take, drop, map, Some, None, refl, sym, ◌∙◌, ap, arith}
use Rattle.std.specs.Prelude.{decimal, option_map}
use Rattle.std.specs.List.{list_all}
use Rattle.std.proofs.lemmas.Bool.{and_parts, false≢true}
use Rattle.std.proofs.lemmas.List.{map-append, length-map, take_more, get_or-map, length-take-le, take-append-drop}
use Rattle.csv.specs.Reading.{strip_bom}
use Rattle.csv.specs.Writing.{default_writer, row_text, fields_text, escaped, is_blank}
use Rattle.csv_rows.specs.Decimal.{number}
use Rattle.csv_rows.specs.Printing.{text_of}
use Rattle.csv_rows.specs.Reading.{records_of}
use Rattle.csv_rows.specs.Rules.{row_at}
use Rattle.csv_rows.proofs.Keeping.{length_more}
use Rattle.csv_rows.proofs.Writing.{HaveFields, reads_back}
use Rattle.tree_model.specs.View.{SystemView}
use Rattle.tree_model.specs.System.{IsSystem, core_names, part_names}
use Rattle.tree_model.proofs.Distinct.{distinct_back, distinct_front}
use Rattle.trace_file.specs.declared.event.Event.{Event}
use Rattle.trace_file.specs.declared.event.TheConstants.{LAST_MOMENT}
use Rattle.trace_file.specs.declared.event.What.{What}
use Rattle.trace_file.specs.declared.event.What.TheVariants.{Start, Wake, Block, Run, Stop, End}
use Rattle.trace_file.specs.declared.fault.TraceFault.TheVariants.{AfterEnd, BadRow}
use Rattle.trace_file.specs.declared.unit.Unit.{Unit}
use Rattle.trace_file.specs.declared.unit.Unit.TheVariants.{Microseconds, Nanoseconds}
use Rattle.trace_printer.specs.inner.Endings.{FitsWord}
use Rattle.trace_file.specs.Events.{event_at, has_ended}
use Rattle.trace_file.specs.File.{core_place, is_empty, fits_word, is_row, event_of, events_of, what_of, unit_of, rows_of, row_rules, Spells}
use Rattle.trace_printer.specs.Printer.{AllFit}
use Rattle.trace_printer.specs.Printing.{is_whole, unit_for, header_row, word_of, core_field, vcpu_field, event_row, printed_rows}
use Rattle.trace_file.specs.Rules.{row_of, fault_if, is_known, named, event_fault, row_fault, Kept}
use Rattle.trace_file.specs.Unit.{scale}
use Rattle.trace_file.proofs.After.{fault_none, row_keeps}
use Rattle.trace_file.proofs.Known.{known_core, known_part}
use Rattle.trace_file.proofs.Prefix.{ended_same, fault_same}
use Rattle.trace_printer.proofs.Printed.{number_back, plain_back, core_back, part_back}

-- the header
header_plain : (unit : Unit) (rest : List ℕ)
    → strip_bom (row_text default_writer (header_row unit) ++ rest) ≡ row_text default_writer (header_row unit) ++ rest
unfolding strip_bom fields_text escaped is_blank
header_plain Microseconds rest = refl
header_plain Nanoseconds rest = refl

header_told : (unit : Unit) → unit_of (header_row unit) ≡ Some unit
header_told Microseconds = refl
header_told Nanoseconds = refl

have_fields : (sys : SystemView) (unit : Unit) (events : List Event) → HaveFields (map (event_row sys unit) events)
unfolding HaveFields
have_fields sys unit [] = tt
have_fields sys unit (e ∷ events) = (refl, have_fields sys unit events)

all_fields : (unit : Unit) (rows : List (List (List ℕ))) → HaveFields rows → HaveFields (header_row unit ∷ rows)
unfolding HaveFields
all_fields unit rows h = (refl, h)

-- the moment
pub IsScaled : Unit → ℕ → Type 0
IsScaled unit at = at / scale unit * scale unit ≡ at

what_back : (sys : SystemView) (c : ℕ) (what : What) → IsSystem sys → is_known sys c what ≡ true
    → what_of sys (word_of what) (vcpu_field sys (named what)) ≡ what
what_back sys c (Start v) s k =
    ap Start (part_back sys v (distinct_back (core_names sys.cores) (part_names sys.parts) s.names)
    (known_part sys c (Start v) v k refl))
what_back sys c (Wake v) s k =
    ap Wake (part_back sys v (distinct_back (core_names sys.cores) (part_names sys.parts) s.names)
    (known_part sys c (Wake v) v k refl))
what_back sys c (Block v) s k =
    ap Block (part_back sys v (distinct_back (core_names sys.cores) (part_names sys.parts) s.names)
    (known_part sys c (Block v) v k refl))
what_back sys c (Run v) s k =
    ap Run (part_back sys v (distinct_back (core_names sys.cores) (part_names sys.parts) s.names)
    (known_part sys c (Run v) v k refl))
what_back sys c Stop s k = refl
what_back sys c End s k = refl

named_core : SystemView → List ℕ → ℕ
named_core sys core = cond (is_empty core) 0 (core_place sys core)

both_parts : (core vcpu : List ℕ) → (not (is_empty core) && not (is_empty vcpu)) ≡ true → is_empty core ≡ false
both_parts [] vcpu e = absurd (false≢true e)
both_parts (b ∷ core) vcpu e = refl

no_core : (core : List ℕ) → (not (is_empty core) && true) ≡ true → is_empty core ≡ false
no_core [] e = absurd (false≢true e)
no_core (b ∷ core) e = refl

core_some : (sys : SystemView) (c : ℕ) (name : List ℕ) → is_empty name ≡ false → core_place sys name ≡ c
    → named_core sys name ≡ c
unfolding named_core
core_some sys c name some e = ap (λ (b : Bool). cond {A = ℕ} b 0 (core_place sys name)) some ∙ e

zero_of : (c : ℕ) → (c == 0) ≡ true → 0 ≡ c
zero_of c e = grind (arith, e)

core_there : (sys : SystemView) (c : ℕ) (what : What) → IsSystem sys → is_known sys c what ≡ true
    → fits_word (core_field sys c what) (word_of what) (vcpu_field sys (named what)) ≡ true
    → named_core sys (core_field sys c what) ≡ c
unfolding named_core
core_there sys c (Start v) s k f =
    core_some sys c (core_field sys c (Start v)) (both_parts (core_field sys c (Start v)) (vcpu_field sys (Some v)) f)
    (core_back sys c (distinct_front (core_names sys.cores) (part_names sys.parts) s.names)
    (known_core sys c (Start v) k refl))
core_there sys c (Wake v) s k f =
    core_some sys c (core_field sys c (Wake v)) (both_parts (core_field sys c (Wake v)) (vcpu_field sys (Some v)) f)
    (core_back sys c (distinct_front (core_names sys.cores) (part_names sys.parts) s.names)
    (known_core sys c (Wake v) k refl))
core_there sys c (Block v) s k f =
    core_some sys c (core_field sys c (Block v)) (both_parts (core_field sys c (Block v)) (vcpu_field sys (Some v)) f)
    (core_back sys c (distinct_front (core_names sys.cores) (part_names sys.parts) s.names)
    (known_core sys c (Block v) k refl))
core_there sys c (Run v) s k f =
    core_some sys c (core_field sys c (Run v)) (both_parts (core_field sys c (Run v)) (vcpu_field sys (Some v)) f)
    (core_back sys c (distinct_front (core_names sys.cores) (part_names sys.parts) s.names)
    (known_core sys c (Run v) k refl))
core_there sys c Stop s k f =
    core_some sys c (core_field sys c Stop) (no_core (core_field sys c Stop) f)
    (core_back sys c (distinct_front (core_names sys.cores) (part_names sys.parts) s.names)
    (known_core sys c Stop k refl))
core_there sys c End s k f = zero_of c k

event_eq : (e : Event) (at core : ℕ) (what : What) → at ≡ e.at → core ≡ e.core → what ≡ e.what
    → record { at = at; core = core; what = what } ≡ e
event_eq e at core what p q r = rw (p, q, r) refl

-- a moment in its unit fits a word of the machine
small : (u : Unit) (at : ℕ) → at ≤ LAST_MOMENT → at / scale u < 2 ^ 64
small Microseconds at m = omega (arith, m)
small Nanoseconds at m = omega (arith, m)

pub event_back : (sys : SystemView) (unit : Unit) (e : Event) → IsSystem sys → IsScaled unit e.at → e.at ≤ LAST_MOMENT
    → is_known sys e.core e.what ≡ true → FitsWord sys e.core e.what → event_of sys unit (event_row sys unit e) ≡ e
unfolding IsScaled named_core
event_back sys unit e s scaled l k f =
    event_eq e (number (decimal (e.at / scale unit)) * scale unit) (named_core sys (core_field sys e.core e.what))
    (what_of sys (word_of e.what) (vcpu_field sys (named e.what)))
    (ap (λ (n : ℕ). n * scale unit) (number_back (e.at / scale unit) (small unit e.at l)) ∙ scaled)
    (core_there sys e.core e.what s k (f k))
    (what_back sys e.core e.what s k)

pub row_back : (sys : SystemView) (unit : Unit) (e : Event) → e.at ≤ LAST_MOMENT → is_known sys e.core e.what ≡ true
    → FitsWord sys e.core e.what → is_row (event_row sys unit e) ≡ true
row_back sys unit e l k f =
    ap (λ (b : Bool). b && fits_word (core_field sys e.core e.what) (word_of e.what) (vcpu_field sys (named e.what)))
    (plain_back (e.at / scale unit) (small unit e.at l)) ∙ f k

-- each moment is a whole number of the unit
scaled_by : (whole : Bool) (events : List Event) → list_all is_whole events ≡ whole → (i : ℕ) → i < length events
    → IsScaled (cond whole Microseconds Nanoseconds) (event_at events i).at
unfolding IsScaled
scaled_by false events e i l = omega arith
scaled_by true [] e i l = absurd (omega (arith, l))
scaled_by true (x ∷ xs) e zero l =
    let w = whole_at x.at (and_parts (is_whole x) (list_all is_whole xs) e).0 in omega (arith, w)
  where
    whole_at : (n : ℕ) → (n % 1000 == 0) ≡ true → n % 1000 ≡ 0
    whole_at n h = sym (zero_of (n % 1000) h)
scaled_by true (x ∷ xs) e (suc i) l =
    scaled_by true xs (and_parts (is_whole x) (list_all is_whole xs) e).1 i (omega (arith, l))

pub scaled : (events : List Event) (i : ℕ) → i < length events → IsScaled (unit_for events) (event_at events i).at
scaled events i l = scaled_by (list_all is_whole events) events refl i l

events_back : (sys : SystemView) (unit : Unit) (events : List Event)
    → ((i : ℕ) → i < length events → event_of sys unit (event_row sys unit (event_at events i)) ≡ event_at events i)
    → events_of sys unit (map (event_row sys unit) events) ≡ events
events_back sys unit [] h = refl
events_back sys unit (e ∷ es) h =
    ap (λ (z : Event). z ∷ events_of sys unit (map (event_row sys unit) es)) (h 0 (omega arith))
    ∙ ap (λ (z : List Event). e ∷ z) (events_back sys unit es (λ i l. h (suc i) (omega (arith, l))))

-- the rules of a row of a file, from those of its event
pub row_keeps_back : (sys : SystemView) (unit : Unit) (rows : List (List (List ℕ))) (i : ℕ) → i < length rows
    → row_fault sys (events_of sys unit rows) i ≡ None → is_row (row_at rows i) ≡ true
    → row_rules sys unit (take i rows) (row_at rows i) ≡ None
row_keeps_back sys unit rows i l keep fits_ =
    let k : length (take i rows) ≡ i = length-take-le i rows (omega (arith, l)) in
    let now : events_of sys unit rows ≡ events_of sys unit (take i rows) ++ events_of sys unit (drop i rows)
    = ap (events_of sys unit) (sym (take-append-drop i rows))
    ∙ map-append (event_of sys unit) (take i rows) (drop i rows) in
    let next : events_of sys unit rows
    ≡ events_of sys unit (take i rows ++ row_at rows i ∷ []) ++ events_of sys unit (drop (i + 1) rows)
    =
    ap (events_of sys unit) (sym (take-append-drop (i + 1) rows))
    ∙ (map-append (event_of sys unit) (take (i + 1) rows) (drop (i + 1) rows)
    ∙ ap (λ (z : List (List (List ℕ))). events_of sys unit z ++ events_of sys unit (drop (i + 1) rows))
    (take_more rows i [] l)) in
    let both_
    = fault_none (has_ended (events_of sys unit rows) i) (AfterEnd (row_of i))
    (event_fault sys (events_of sys unit rows) i) keep in
    let goes : has_ended (events_of sys unit (take i rows)) (length (take i rows)) ≡ false =
    ap (has_ended (events_of sys unit (take i rows))) k
    ∙ (sym (ended_same (events_of sys unit (take i rows)) (events_of sys unit (drop i rows)) i
    (let t = length-map (take i rows) (event_of sys unit) in omega (arith, t, k)))
    ∙ (ap (λ (z : List Event). has_ended z i) (sym now) ∙ both_.0)) in
    let said : event_fault sys (events_of sys unit (take i rows ++ row_at rows i ∷ [])) (length (take i rows)) ≡ None =
    ap (event_fault sys (events_of sys unit (take i rows ++ row_at rows i ∷ []))) k
    ∙ (sym (fault_same sys (events_of sys unit (take i rows ++ row_at rows i ∷ []))
    (events_of sys unit (drop (i + 1) rows)) i (
    let t = length-map (take i rows ++ row_at rows i ∷ []) (event_of sys unit) in
    let u = length_more (take i rows) (row_at rows i) in omega (arith, t, u, k)))
    ∙ (ap (λ (z : List Event). event_fault sys z i) (sym next) ∙ both_.1)) in
    ap (λ (z : Bool). fault_if z (AfterEnd (row_of (length (take i rows))))
    (fault_if (not (is_row (row_at rows i))) (BadRow (row_of (length (take i rows))))
    (event_fault sys (events_of sys unit (take i rows ++ row_at rows i ∷ [])) (length (take i rows))))) goes
    ∙ (ap (λ (z : Bool). fault_if (not z) (BadRow (row_of (length (take i rows))))
    (event_fault sys (events_of sys unit (take i rows ++ row_at rows i ∷ [])) (length (take i rows)))) fits_
    ∙ said)

pub printed_spells : (sys : SystemView) (events : List Event) → IsSystem sys → Kept sys events → AllFit sys events
    → Spells sys (records_of (text_of (printed_rows sys events))) events
printed_spells sys events s kept fits_ =
    let unit = unit_for events in
    let rows = map (event_row sys unit) events in
    let long = length-map events (event_row sys unit) in
    let known : (i : ℕ) → i < length events → is_known sys (event_at events i).core (event_at events i).what ≡ true
    = λ i l. (row_keeps sys events i (kept.rows i l)).known in
    let in_time : (i : ℕ) → i < length events → (event_at events i).at ≤ LAST_MOMENT
    = λ i l. (row_keeps sys events i (kept.rows i l)).in_limit in
    let back : events_of sys unit rows ≡ events
    = events_back sys unit events (λ i l. event_back sys unit (event_at events i) s (scaled events i l)
    (in_time i l) (known i l) (fits_ i l)) in
    let read
    = reads_back (header_row unit ∷ rows) (header_plain unit (text_of rows))
    (all_fields unit rows (have_fields sys unit events)) in
    record {
      unit = unit;
      rows = rows;
      header = ap rows_of read ∙ ap (option_map (λ (u : Unit). (u, rows))) (header_told unit);
      keep = λ i l.
          let m : i < length events = omega (arith, l, long) in
          row_keeps_back sys unit rows i l (ap (λ (z : List Event). row_fault sys z i) back ∙ kept.rows i m)
          (ap is_row (get_or-map (event_row sys unit) events i (record { at = 0; core = 0; what = End }) [] m)
          ∙ row_back sys unit (event_at events i) (in_time i m) (known i m) (fits_ i m));
      ended = ap (has_ended events) long ∙ kept.ended;
      events_are = sym back;
    }
