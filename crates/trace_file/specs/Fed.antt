-- A trace whose text is taken piece by piece.
use Rattle.std.specs.Prelude.{◌≡◌, ℕ, List}
use Rattle.csv_rows.specs.Feed.{IsFed}
use Rattle.tree_model.specs.View.{SystemView}
use Rattle.trace_file.specs.declared.check.TraceCheck.{TraceCheck}
use Rattle.trace_file.specs.declared.trace_feed.TraceFeed.{TraceFeed}
use Rattle.trace_file.specs.declared.trace_taker.TraceTaker.{TraceTaker}
use Rattle.trace_file.specs.declared.watcher.Unwatched.{Unwatched}
use Rattle.trace_file.specs.Given.{HasTaken, Sees}

-- from one value to another these records of a trace were taken
abbrev pub Takes : {W : Type 0} → Sees W → TraceTaker W → TraceTaker W → List (List (List ℕ))
    → Type 0
Takes has_seen old new records = HasTaken has_seen old.reader.sys.now old.watcher records new

-- the bytes of a text were taken, and a watcher sees the events of its rows
pub record IsFedTrace {W : Type 0} (has_seen : Sees W) (sys : SystemView) (start : W)
    (text : List ℕ) (f : TraceFeed W) : Type 0 where
  pub first : TraceTaker W
  pub sys_is : first.reader.sys.now ≡ sys
  pub watcher_is : first.watcher ≡ start
  pub fed : IsFed (Takes has_seen) first text f.records

-- the bytes of a text were taken to be checked
abbrev pub HasChecked : SystemView → List ℕ → TraceCheck → Type 0
HasChecked sys text c =
    (start : Unwatched) × IsFedTrace (λ sys start now events. Unit {0}) sys start text c.feed
