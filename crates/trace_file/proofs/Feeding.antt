-- What is known of a trace behind one piece more of its text, or one record more.
use Rattle.std.proofs.Common.{ℕ, List, [], ◌∷◌, ◌++◌, Result, Ok, Err, subst}
use Rattle.std.specs.Prelude.{OnOk}
use Rattle.csv_rows.specs.Feed.{IsFed}
use Rattle.csv_rows.specs.Taker.{Took}
use Rattle.tree_model.specs.View.{SystemView}
use Rattle.trace_file.specs.declared.check.TraceCheck.{TraceCheck}
use Rattle.trace_file.specs.declared.trace_feed.TraceFeed.{TraceFeed}
use Rattle.trace_file.specs.declared.trace_taker.TraceTaker.{TraceTaker}
use Rattle.trace_file.specs.declared.watcher.Unwatched.{Unwatched}
use Rattle.trace_file.specs.Fed.{HasChecked, IsFedTrace, Takes}
use Rattle.trace_file.specs.Given.{HasTaken, Sees}

module _ {W : Type 0} (has_seen : Sees W) where
  pub took_on : {T E : Type 0} (r : Result T E) (old new : TraceTaker W) (row : List (List ℕ))
      → ((sys : SystemView) (start : W) (records : List (List (List ℕ))) → HasTaken has_seen sys start records old
      → OnOk r (HasTaken has_seen sys start (records ++ row ∷ []) new))
      → OnOk r (Took (Takes has_seen) old new (row ∷ []))
  took_on (Ok x) old new row h = λ start records taken. h start.reader.sys.now start.watcher records taken
  took_on (Err y) old new row h = tt

  pub fed_on : {T E : Type 0} (r : Result T E) (sys : SystemView) (start : W) (text more : List ℕ)
      (old new : TraceFeed W) → (h : IsFedTrace has_seen sys start text old)
      → OnOk r (IsFed (Takes has_seen) h.first more new.records) → OnOk r (IsFedTrace has_seen sys start more new)
  fed_on (Ok x) sys start text more old new h fed =
      record { first = h.first; sys_is = h.sys_is; watcher_is = h.watcher_is; fed = fed }
  fed_on (Err y) sys start text more old new h fed = tt

  -- the records are those of its system and its watcher
  pub fed_taken : (sys : SystemView) (start : W) (text : List ℕ) (f : TraceFeed W) (records : List (List (List ℕ)))
      (t : TraceTaker W) → (h : IsFedTrace has_seen sys start text f) → Takes has_seen h.first t records
      → HasTaken has_seen sys start records t
  fed_taken sys start text f records t h taken =
      subst (λ (z : SystemView). HasTaken has_seen z start records t) h.sys_is
      (subst (λ (w : W). HasTaken has_seen h.first.reader.sys.now w records t) h.watcher_is taken)

pub checked_on : {T E : Type 0} (r : Result T E) (sys : SystemView) (start : Unwatched) (more : List ℕ)
    (new : TraceCheck) → OnOk r (IsFedTrace (λ sys start now events. Unit {0}) sys start more new.feed)
    → OnOk r (HasChecked sys more new)
checked_on (Ok x) sys start more new fed = (start, fed)
checked_on (Err y) sys start more new fed = tt
