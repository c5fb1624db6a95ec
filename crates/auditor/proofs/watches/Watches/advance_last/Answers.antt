use Rattle.std.proofs.Common.{ℕ, List, true, false}
use Rattle.tree_model.specs.View.{SystemView}
use Rattle.trace_file.specs.declared.event.Event.{Event}
use Rattle.trace_file.specs.declared.rows.Rows.{Rows}
use Rattle.auditor.specs.declared.counted.Counted.{Counted}
use Rattle.auditor.specs.inner.Told.{StandsSo}
use Rattle.auditor.specs.inner.Watches.{AwaitsSwitch}
use Rattle.auditor.proofs.Holding.{last_stands}
use Rattle.auditor.proofs.watches.Watches.advance_last.Goals as goal
use Rattle.auditor.proofs.watches.Watches.advance_last.Goals.{In-Some}

-- the VCPU has its core and is not blocked
stands : (c : In-Some) (counted : Counted) (sys : SystemView) (budgets : List ℕ) (events : List Event) (n : ℕ)
    (rows : Rows)
    → AwaitsSwitch counted sys budgets events n c.args.event rows c.args.last c.args.self.now
    → StandsSo sys events n c.in-Some.v (record { has_core = true; is_blocked = false })
stands c counted sys budgets events n rows waits =
    last_stands sys waits.system events n c.in-Some.v c.args.event rows c.args.last waits.awaits.next waits.last_is
    c.in-Some.is

pub advance-requires : goal.advance-requires
advance-requires c =
    let (counted, sys, budgets, events, n, rows, waits) = c.requires in (
      counted,
      sys,
      budgets,
      events,
      n,
      rows,
      stands (goal.at.advance-requires c).In-Some counted sys budgets events n rows waits,
      waits.awaits,
    )

pub returns-in-Some-clause-awaits : goal.returns-in-Some-clause-awaits
returns-in-Some-clause-awaits c counted sys budgets events n rows waits = record {
  system = waits.system;
  last_is = waits.last_is;
  awaits =
      c.advance.ensures.awaits counted sys budgets events n rows
      (stands (goal.at.returns-in-Some-clause-awaits c).In-Some counted sys budgets events n rows waits) waits.awaits;
}
