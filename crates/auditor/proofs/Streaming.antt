-- The watches behind the events so far, whatever comes behind these.
use Rattle.std.proofs.Common.{◌≡◌, ℕ, ◌+◌, List, [], ◌∷◌, ◌++◌, length, sym, ◌∙◌, subst, arith}
use Rattle.std.proofs.lemmas.List.{append_assoc, append-nil, length-append}
use Rattle.std.proofs.Math.Seq.{get_or-append_seam}
use Rattle.std.specs.Prelude.{Result, Ok, Err, OnOk}
use Rattle.tree_model.specs.View.{SystemView}
use Rattle.trace_file.specs.declared.event.Event.{Event}
use Rattle.trace_file.specs.declared.event.What.TheVariants.{End}
use Rattle.trace_file.specs.declared.rows.Rows.{Rows}
use Rattle.trace_file.specs.Rows.{IsAfter}
use Rattle.trace_file.specs.Rules.{RowsKeep}
use Rattle.trace_file.specs.Fed.{IsFedTrace}
use Rattle.trace_file.specs.Given.{HasWatched}
use Rattle.trace_file.specs.declared.trace_taker.Watched.{Watched}
use Rattle.csv_rows.specs.Reading.{records_of}
use Rattle.auditor.specs.declared.counted.Counted.{Counted}
use Rattle.tree_model.specs.Plans.{IsPlan}
use Rattle.auditor.specs.declared.pieces.Audit.{Audit}
use Rattle.auditor.specs.declared.pieces.Watcher.{Watcher}
use Rattle.trace_file.proofs.Prefix.{after_same}
use Rattle.auditor.specs.declared.watches.Watches.{Watches}
use Rattle.auditor.specs.inner.Watches.{AreWatched, AwaitsEvent, HaveWatched}
use Rattle.auditor.specs.Pieces.{Behind, HasAudited, HasSeen}

pub awaits_more : (counted : Counted) (sys : SystemView) (budgets : List ℕ) (events : List Event) (e : Event)
    (more : List Event)
    (rows : Rows) (s : Watches) → RowsKeep sys (events ++ e ∷ more) (length (events ++ e ∷ more))
    → IsAfter events (length events) rows → Behind counted sys budgets events s
    → AwaitsEvent counted sys budgets (events ++ e ∷ more) (length events) e rows s
awaits_more counted sys budgets events e more rows s keep after behind = record {
  next = record {
    keep = keep;
    is_row = let l = length-append events (e ∷ more) in omega (arith, l);
    event_is = sym (get_or-append_seam events e more (record { at = 0; core = 0; what = End }));
    after = after_same events (e ∷ more) (length events) rows (omega arith) after;
  };
  watched = behind (e ∷ more) keep;
}

pub behind_next : (counted : Counted) (sys : SystemView) (budgets : List ℕ) (events : List Event) (e : Event)
    (rows : Rows)
    (old new : Watches) → IsAfter events (length events) rows → Behind counted sys budgets events old
    → ((xs : List Event) (n : ℕ) → AwaitsEvent counted sys budgets xs n e rows old → AreWatched counted sys budgets xs
    (n + 1) new)
    → Behind counted sys budgets (events ++ e ∷ []) new
behind_next counted sys budgets events e rows old new after behind taken = λ more keep.
    let one : (events ++ e ∷ []) ++ more ≡ events ++ e ∷ more = append_assoc events (e ∷ []) more in
    let keeps : RowsKeep sys (events ++ e ∷ more) (length (events ++ e ∷ more))
    = subst (λ (z : List Event). RowsKeep sys z (length z)) one keep in
    let count : length events + 1 ≡ length (events ++ e ∷ []) = sym (length-append events (e ∷ [])) in
    subst (λ (z : List Event). AreWatched counted sys budgets z (length (events ++ e ∷ [])) new) (sym one)
    (subst (λ (n : ℕ). AreWatched counted sys budgets (events ++ e ∷ more) n new) count
    (taken (events ++ e ∷ more) (length events)
    (awaits_more counted sys budgets events e more rows old keeps after behind)))

pub behind_all : (counted : Counted) (sys : SystemView) (budgets : List ℕ) (events : List Event) (s : Watches)
    → Behind counted sys budgets events s
    → RowsKeep sys events (length events) → AreWatched counted sys budgets events (length events) s
behind_all counted sys budgets events s behind keep =
    subst (λ (z : List Event). AreWatched counted sys budgets z (length events) s) (append-nil events)
    (behind [] (subst (λ (z : List Event). RowsKeep sys z (length z)) (sym (append-nil events)) keep))

-- behind a piece more
pub audited_on : {T E : Type 0} (r : Result T E) (counted : Counted) (sys : SystemView) (budgets text more : List ℕ)
    (old new : Audit)
    → new.sys.now ≡ old.sys.now → (h : HasAudited counted sys budgets text old)
    → OnOk r (IsFedTrace HasSeen sys h.start more new.feed) → OnOk r (HasAudited counted sys budgets more new)
audited_on (Ok x) counted sys budgets text more old new same h fed = record {
  sys_is = same ∙ h.sys_is;
  system = h.system;
  start = h.start;
  plan_is = h.plan_is;
  counted_is = h.counted_is;
  fed = fed;
}
audited_on (Err y) counted sys budgets text more old new same h fed = tt

-- all of a text is watched
pub watched_all : (counted : Counted) (sys : SystemView) (budgets text : List ℕ) (a : Audit) (w : Watched Watcher)
    → (h : HasAudited counted sys budgets text a) → HasWatched HasSeen sys h.start (records_of text) w
    → HaveWatched counted a.sys.now budgets text w.rows w.watcher.watches
watched_all counted sys budgets text a w h watched =
    subst (λ (z : SystemView). HaveWatched counted z budgets text w.rows w.watcher.watches) (sym h.sys_is) (record {
      events = watched.events;
      spelled = watched.spelled;
      at_end = record {
        kept = watched.kept;
        after = watched.after;
        watched =
            subst
            (λ (b : List ℕ). AreWatched counted sys b watched.events (length watched.events) w.watcher.watches)
            (watched.seen.same ∙ h.plan_is)
            (subst
            (λ (z : Counted). AreWatched z sys w.watcher.plan watched.events (length watched.events) w.watcher.watches)
            h.counted_is
            (behind_all h.start.watches.counted sys w.watcher.plan watched.events w.watcher.watches watched.seen.behind
            watched.kept.rows));
      };
    })

-- under budgets that are a plan
pub plan_of : (counted : Counted) (sys : SystemView) (budgets text : List ℕ) (a : Audit) (w : Watched Watcher)
    → (h : HasAudited counted sys budgets text a) → HasWatched HasSeen sys h.start (records_of text) w
    → IsPlan a.sys.now budgets
plan_of counted sys budgets text a w h watched =
    subst (λ (z : SystemView). IsPlan z budgets) (sym h.sys_is)
    (subst (λ (b : List ℕ). IsPlan sys b) (watched.seen.same ∙ h.plan_is) watched.seen.plan)
