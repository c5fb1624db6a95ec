-- One record more of a trace.
use Rattle.std.proofs.Common.{◌≡◌, ◌+◌, ℕ, true, false, List, [], ◌∷◌, ◌++◌, length, Some, None, refl, sym, ◌∙◌, ap, subst, arith, inl, inr}
use Rattle.std.proofs.lemmas.List.{append_assoc, append-nil, length-map}
use Rattle.std.proofs.Math.Seq.{get_or-append_seam}
use Rattle.csv_rows.specs.Rules.{RowsKeep}
use Rattle.csv_rows.proofs.Keeping.{keep_more, first_there, length_more}
use Rattle.tree_model.specs.View.{SystemView}
use Rattle.trace_file.specs.declared.event.Event.{Event}
use Rattle.trace_file.specs.declared.event.What.TheVariants.{End}
use Rattle.trace_file.specs.declared.fault.TraceFault.{TraceFault}
use Rattle.trace_file.specs.declared.fault.TraceFault.TheVariants.{NoEnd}
use Rattle.trace_file.specs.declared.row_reader.RowReader.{RowReader}
use Rattle.trace_file.specs.declared.rows.Rows.{Rows}
use Rattle.trace_file.specs.declared.trace_taker.Stage.TheVariants.{Rows as at_rows}
use Rattle.trace_file.specs.declared.trace_taker.TraceTaker.{TraceTaker}
use Rattle.trace_file.specs.declared.unit.Unit.{Unit as UnitOfTime}
use Rattle.trace_file.specs.Events.{event_at, has_ended}
use Rattle.trace_file.specs.File.{is_row, event_of, events_of, row_rules, rows_of, IsFileFault}
use Rattle.trace_file.specs.Given.{HasRows, HasTaken, HasWatched, IsAt, IsBeforeEvent, IsBehindRows, Sees}
use Rattle.trace_file.specs.Rows.{IsAfter, IsNext}
use Rattle.trace_file.specs.Rules.{row_of, event_fault, row_fault, is_known, RowsKeep as EventsKeep}
use Rattle.trace_file.proofs.After.{row_keeps}
use Rattle.trace_file.proofs.Prefix.{after_same}
use Rattle.trace_file.proofs.Taking.{events_more, rules_of_event, events_keep, behind_header, file_fault}

-- an event behind others is the next one
pub next_pushed : (events : List Event) (e : Event) (row : ℕ) (s : Rows) → IsAfter events (length events) s
    → row ≡ row_of (length events) → IsNext (events ++ e ∷ []) (length events) e row s
next_pushed events e row s after is = record {
  event_is = sym (get_or-append_seam events e [] (record { at = 0; core = 0; what = End }));
  row_is = is;
  after = after_same events (e ∷ []) (length events) s (omega arith) after;
}

next_at : (events : List Event) (e : Event) (n row : ℕ) (s : Rows) → n ≡ length events → IsAfter events n s
    → row ≡ row_of n → IsNext (events ++ e ∷ []) n e row s
next_at events e n row s is after number =
    subst (λ (z : ℕ). IsNext (events ++ e ∷ []) z e row s) (sym is)
    (next_pushed events e row s (subst (λ (z : ℕ). IsAfter events z s) is after) (number ∙ ap row_of is))

-- the event of the next row, and the rules that the row is judged by
module _ (unit : UnitOfTime) (rows : List (List (List ℕ))) (row : List (List ℕ)) (r : RowReader) (e : Event)
    (behind : IsBehindRows unit rows r) where
  pub judged_next : IsNext (events_of r.sys.now unit rows ++ e ∷ []) (length rows) e r.row r.rows
  judged_next =
      next_at (events_of r.sys.now unit rows) e (length rows) r.row r.rows
      (sym (length-map rows (event_of r.sys.now unit))) behind.after behind.row

  pub judged_rules : has_ended (events_of r.sys.now unit rows) (length rows) ≡ false → is_row row ≡ true
      → e ≡ event_of r.sys.now unit row
      → row_rules r.sys.now unit rows row
      ≡ event_fault r.sys.now (events_of r.sys.now unit rows ++ e ∷ []) (length rows)
  judged_rules goes fits is =
      rules_of_event r.sys.now unit rows row (events_of r.sys.now unit rows) e refl is goes fits

-- an event that keeps the rules behind others
module _ (sys : SystemView) (events : List Event) (e : Event) (rows : Rows) (before : IsBeforeEvent sys events e rows)
  where
    pub event_there : e ≡ event_at (events ++ e ∷ []) (length events)
    event_there = sym (get_or-append_seam events e [] (record { at = 0; core = 0; what = End }))

    pub event_keeps : row_fault sys (events ++ e ∷ []) (length events) ≡ None
    event_keeps = before.keep (length events) (omega (arith, length_more events e))

    pub event_known : is_known sys e.core e.what ≡ true
    event_known =
        subst (λ (z : Event). is_known sys z.core z.what ≡ true) (sym event_there)
        (row_keeps sys (events ++ e ∷ []) (length events) event_keeps).known

    pub event_behind : IsAfter (events ++ e ∷ []) (length events) rows
    event_behind = after_same events (e ∷ []) (length events) rows (omega arith) before.after

module _ {W : Type 0} (has_seen : Sees W) (start now : W) (records : List (List (List ℕ))) (row : List (List ℕ))
    (r : RowReader) where
  module _ (unit : UnitOfTime) (h : HasRows has_seen start now records unit r) where
    -- a row that breaks a rule is the first
    pub row_breaks : (fault : TraceFault) → row_rules r.sys.now unit h.rows row ≡ Some fault
        → (more : List (List (List ℕ))) → IsFileFault r.sys.now (rows_of ((records ++ row ∷ []) ++ more)) fault
    row_breaks fault breaks more =
        file_fault r.sys.now ((records ++ row ∷ []) ++ more) (h.rows ++ row ∷ more) unit fault
        (behind_header ((records ++ row ∷ []) ++ more) h.header (h.rows ++ row ∷ more) unit
        (append_assoc records (row ∷ []) more ∙ ap (λ (z : List (List (List ℕ))). z ++ row ∷ more) h.are) h.told)
        (inl (first_there (row_rules r.sys.now unit) h.rows row more fault h.keep breaks))

    module _ (e : Event) (none : row_rules r.sys.now unit h.rows row ≡ None) (is : e ≡ event_of r.sys.now unit row)
      where
        -- a row that keeps them
        now_keep : RowsKeep (row_rules r.sys.now unit) (h.rows ++ row ∷ []) (length (h.rows ++ row ∷ []))
        now_keep = keep_more (row_rules r.sys.now unit) h.rows row h.keep none

        now_events : events_of r.sys.now unit h.rows ++ e ∷ [] ≡ events_of r.sys.now unit (h.rows ++ row ∷ [])
        now_events =
            ap (λ (z : Event). events_of r.sys.now unit h.rows ++ z ∷ []) is
            ∙ sym (events_more r.sys.now unit h.rows row)

        long : length h.rows ≡ length (events_of r.sys.now unit h.rows)
        long = sym (length-map h.rows (event_of r.sys.now unit))

        pub row_before : IsBeforeEvent r.sys.now (events_of r.sys.now unit h.rows) e r.rows
        row_before = record {
          keep =
              subst (λ (z : List Event). EventsKeep r.sys.now z (length z)) (sym now_events)
              (events_keep r.sys.now unit (h.rows ++ row ∷ []) now_keep);
          after =
              subst (λ (n : ℕ). IsAfter (events_of r.sys.now unit h.rows) n r.rows) long h.behind.after;
        }

        pub row_more : (next : W) (rows : Rows) (number : ℕ)
            → has_seen r.sys.now start next (events_of r.sys.now unit h.rows ++ e ∷ [])
            → IsAfter (events_of r.sys.now unit h.rows ++ e ∷ []) (length (events_of r.sys.now unit h.rows) + 1) rows
            → number ≡ r.row + 1
            → HasRows has_seen start next (records ++ row ∷ []) unit (record r { rows = rows; row = number })
        row_more next rows number seen after is_row = record {
          header = h.header;
          rows = h.rows ++ row ∷ [];
          are = ap (λ (z : List (List (List ℕ))). z ++ row ∷ []) h.are;
          told = h.told;
          keep = now_keep;
          behind = record {
            row = omega (arith, is_row, h.behind.row, length_more h.rows row);
            after =
                subst (λ (n : ℕ). IsAfter (events_of r.sys.now unit (h.rows ++ row ∷ [])) n rows)
                (omega (arith, long, length_more h.rows row))
                (subst (λ (z : List Event). IsAfter z (length (events_of r.sys.now unit h.rows) + 1) rows) now_events
                after);
          };
          seen = subst (λ (z : List Event). has_seen r.sys.now start next z) now_events seen;
        }

module _ {W : Type 0} (has_seen : Sees W) (start now : W) (records : List (List (List ℕ))) (r : RowReader) where
  -- the first fault, where no record comes behind it
  pub still_broken : (fault : TraceFault)
      → ((more : List (List (List ℕ))) → IsFileFault r.sys.now (rows_of (records ++ more)) fault)
      → IsFileFault r.sys.now (rows_of records) fault
  still_broken fault h =
      subst (λ (z : List (List (List ℕ))). IsFileFault r.sys.now (rows_of z) fault) (append-nil records) (h [])

  module _ (unit : UnitOfTime) (h : HasRows has_seen start now records unit r) where
    -- the end has come, or it has not
    pub rows_ended : has_ended (events_of r.sys.now unit h.rows) (length h.rows) ≡ true
        → HasWatched has_seen r.sys.now start records (record { rows = r.rows; watcher = now })
    rows_ended ended =
        let long : length h.rows ≡ length (events_of r.sys.now unit h.rows) =
        sym (length-map h.rows (event_of r.sys.now unit)) in
        record {
          events = events_of r.sys.now unit h.rows;
          spelled = record {
            unit = unit;
            rows = h.rows;
            header = behind_header records h.header h.rows unit h.are h.told;
            keep = h.keep;
            ended = ended;
            events_are = refl;
          };
          kept = record {
            rows = events_keep r.sys.now unit h.rows h.keep;
            ended = ap (has_ended (events_of r.sys.now unit h.rows)) (sym long) ∙ ended;
          };
          after = subst (λ (n : ℕ). IsAfter (events_of r.sys.now unit h.rows) n r.rows) long h.behind.after;
          seen = h.seen;
        }

    pub rows_open : has_ended (events_of r.sys.now unit h.rows) (length h.rows) ≡ false
        → IsFileFault r.sys.now (rows_of records) (NoEnd r.row)
    rows_open goes =
        file_fault r.sys.now records h.rows unit (NoEnd r.row)
        (behind_header records h.header h.rows unit h.are h.told)
        (inr (record { keep = h.keep; no_end = goes; fault_is = ap (λ (n : ℕ). NoEnd n) h.behind.row }))

-- where rows come, and what the event of the next one says of it
abbrev pub SaysOf : UnitOfTime → List (List ℕ) → RowReader → Event → Type 0
SaysOf unit row r e =
    (rows : List (List (List ℕ))) → IsBehindRows unit rows r
    → (row_rules r.sys.now unit rows row ≡ None) × (e ≡ event_of r.sys.now unit row)

module _ {W : Type 0} (has_seen : Sees W) (sys : SystemView) (start : W) (records : List (List (List ℕ)))
    (t : TraceTaker W) (unit : UnitOfTime) (h : HasTaken has_seen sys start records t) (at : t.stage ≡ at_rows unit)
  where
    pub rows_taken : HasRows has_seen start t.watcher records unit t.reader
    rows_taken = subst (IsAt has_seen start t.watcher records t.reader) at h.at

    module _ (row : List (List ℕ)) (e : Event) (says : SaysOf unit row t.reader e) where
      pub taken_before
          : IsBeforeEvent t.reader.sys.now (events_of t.reader.sys.now unit rows_taken.rows) e t.reader.rows
      taken_before =
          let said = says rows_taken.rows rows_taken.behind in
          row_before has_seen start t.watcher records row t.reader unit rows_taken e said.0 said.1

      pub taken_more : (next : W) (rows : Rows) (number : ℕ)
          → has_seen t.reader.sys.now start next (events_of t.reader.sys.now unit rows_taken.rows ++ e ∷ [])
          → IsAfter (events_of t.reader.sys.now unit rows_taken.rows ++ e ∷ [])
          (length (events_of t.reader.sys.now unit rows_taken.rows) + 1) rows → number ≡ t.reader.row + 1
          → HasTaken has_seen sys start (records ++ row ∷ [])
          (record t { reader = record t.reader { rows = rows; row = number }; watcher = next })
      taken_more next rows number seen after is =
          let said = says rows_taken.rows rows_taken.behind in
          record {
            sys_is = h.sys_is;
            system = h.system;
            names = h.names;
            at =
                subst (IsAt has_seen start next (records ++ row ∷ []) (record t.reader { rows = rows; row = number }))
                (sym at)
                (row_more has_seen start t.watcher records row t.reader unit rows_taken e said.0 said.1 next rows number
                seen after is);
          }
