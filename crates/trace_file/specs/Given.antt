-- What is kept of the events that were read.
use Rattle.std.specs.Prelude.{◌≡◌, ℕ, ◌∷◌, [], ◌++◌, ◌+◌, List, length, Some}
use Rattle.csv_rows.specs.Rules.{RowsKeep}
use Rattle.tree_model.specs.View.{SystemView}
use Rattle.tree_model.specs.System.{IsSystem}
use Rattle.trace_file.specs.declared.event.Event.{Event}
use Rattle.trace_file.specs.declared.row_reader.RowReader.{RowReader}
use Rattle.trace_file.specs.declared.rows.Rows.{Rows}
use Rattle.trace_file.specs.declared.trace_taker.Stage.{Stage}
use Rattle.trace_file.specs.declared.trace_taker.Stage.TheVariants as stage
use Rattle.trace_file.specs.declared.trace_taker.TraceTaker.{TraceTaker}
use Rattle.trace_file.specs.declared.trace_taker.Watched.{Watched}
use Rattle.trace_file.specs.declared.unit.Unit.{Unit as UnitOfTime}
use Rattle.trace_file.specs.File.{IsFileFault, Spells, events_of, row_rules, rows_of, unit_of}
use Rattle.trace_file.specs.Named.{AreNames}
use Rattle.trace_file.specs.Rows.{IsAfter}
use Rattle.trace_file.specs.Rules.{Kept, RowsKeep as EventsKeep}

-- this is the next event behind these, all of which keep the rules, and the rows are as those
-- before it left them
pub record IsBeforeEvent (sys : SystemView) (events : List Event) (event : Event) (rows : Rows)
    : Type 0 where
  pub keep : EventsKeep sys (events ++ event ∷ []) (length (events ++ event ∷ []))
  pub after : IsAfter events (length events) rows

-- it stands behind these rows
pub record IsBehindRows (unit : UnitOfTime) (rows : List (List (List ℕ))) (r : RowReader)
    : Type 0 where
  pub row : r.row ≡ length rows + 2
  pub after : IsAfter (events_of r.sys.now unit rows) (length rows) r.rows

-- a watcher goes from one value to another over the events of a system
abbrev pub Sees : Type 0 → Type 1
Sees W = SystemView → W → W → List Event → Type 0

-- no record was taken
pub record HasNone {W : Type 0} (has_seen : Sees W) (start now : W)
    (records : List (List (List ℕ))) (r : RowReader) : Type 0 where
  pub none : records ≡ []
  pub row : r.row ≡ 2
  pub after : IsAfter [] 0 r.rows
  pub seen : has_seen r.sys.now start now []

-- the header was taken, and rows that keep the rules, whose events were seen
pub record HasRows {W : Type 0} (has_seen : Sees W) (start now : W)
    (records : List (List (List ℕ))) (unit : UnitOfTime) (r : RowReader) : Type 0 where
  pub header : List (List ℕ)
  pub rows : List (List (List ℕ))
  pub are : records ≡ header ∷ rows
  pub told : unit_of header ≡ Some unit
  pub keep : RowsKeep (row_rules r.sys.now unit) rows (length rows)
  pub behind : IsBehindRows unit rows r
  pub seen : has_seen r.sys.now start now (events_of r.sys.now unit rows)

-- what is known of the records that were taken: the first fault is that of any text that goes on
abbrev pub IsAt : {W : Type 0} → Sees W → W → W → List (List (List ℕ)) → RowReader → Stage
    → Type 0
IsAt has_seen start now records r stage.Header = HasNone has_seen start now records r
IsAt has_seen start now records r (stage.Rows unit) = HasRows has_seen start now records unit r
IsAt has_seen start now records r (stage.Broken fault) =
    (more : List (List (List ℕ))) → IsFileFault r.sys.now (rows_of (records ++ more)) fault

-- these records of a trace over a system were taken
pub record HasTaken {W : Type 0} (has_seen : Sees W) (sys : SystemView) (start : W)
    (records : List (List (List ℕ))) (t : TraceTaker W) : Type 0 where
  pub sys_is : t.reader.sys.now ≡ sys
  pub system : IsSystem t.reader.sys.now
  pub names : AreNames t.reader.sys.now t.reader.names
  pub at : IsAt has_seen start t.watcher records t.reader t.stage

-- the records spell events that keep the rules, and these were seen
pub record HasWatched {W : Type 0} (has_seen : Sees W) (sys : SystemView) (start : W)
    (records : List (List (List ℕ))) (w : Watched W) : Type 0 where
  pub events : List Event
  pub spelled : Spells sys records events
  pub kept : Kept sys events
  pub after : IsAfter events (length events) w.rows
  pub seen : has_seen sys start w.watcher events
