-- An audit of a text whose bytes are taken piece by piece.
use Rattle.std.specs.Prelude.{◌≡◌, ℕ, List, length, ◌++◌}
use Rattle.tree_model.specs.View.{SystemView}
use Rattle.tree_model.specs.Plans.{IsPlan}
use Rattle.tree_model.specs.System.{IsSystem}
use Rattle.trace_file.specs.declared.event.Event.{Event}
use Rattle.trace_file.specs.Fed.{IsFedTrace}
use Rattle.trace_file.specs.Rules.{RowsKeep}
use Rattle.auditor.specs.declared.counted.Counted.{Counted}
use Rattle.auditor.specs.declared.pieces.Audit.{Audit}
use Rattle.auditor.specs.declared.pieces.Watcher.{Watcher}
use Rattle.auditor.specs.declared.watches.Watches.{Watches}
use Rattle.auditor.specs.inner.Watches.{AreWatched}

-- all VCPUs are watched over these events, whatever events come behind them
abbrev pub Behind : Counted → SystemView → List ℕ → List Event → Watches → Type 0
Behind counted sys budgets events s =
    (more : List Event) → RowsKeep sys (events ++ more) (length (events ++ more))
    → AreWatched counted sys budgets (events ++ more) (length events) s

-- the events were watched, under the budgets and by the time of the begin
pub record HasSeen (sys : SystemView) (start now : Watcher) (events : List Event) : Type 0 where
  pub same : now.plan ≡ start.plan
  pub system : IsSystem sys
  pub plan : IsPlan sys now.plan
  pub behind : Behind start.watches.counted sys now.plan events now.watches

-- the bytes of a text were taken, of which this time is to be counted, under these budgets
pub record HasAudited (counted : Counted) (sys : SystemView) (budgets text : List ℕ) (a : Audit)
    : Type 0 where
  pub sys_is : a.sys.now ≡ sys
  pub system : IsSystem sys
  pub start : Watcher
  pub plan_is : start.plan ≡ budgets
  pub counted_is : start.watches.counted ≡ counted
  pub fed : IsFedTrace HasSeen sys start text a.feed
