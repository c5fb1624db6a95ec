use Rattle.std.proofs.Common.{◌∙◌, ℕ, List}
use Rattle.tree_model.specs.View.{SystemView}
use Rattle.trace_file.specs.declared.event.Event.{Event}
use Rattle.trace_file.specs.declared.rows.Rows.{Rows}
use Rattle.auditor.specs.declared.counted.Counted.{Counted}
use Rattle.auditor.specs.inner.Told.{StandsSo}
use Rattle.auditor.specs.inner.Watches.{AwaitsSwitch}
use Rattle.auditor.proofs.Holding.{next_stands}
use Rattle.auditor.proofs.watches.Watches.advance_next.Goals as goal
use Rattle.auditor.proofs.watches.Watches.advance_next.Goals.{After-before_run}

-- the VCPU stands as one that is to run
stands : (c : After-before_run) (counted : Counted) (sys : SystemView) (budgets : List ℕ) (events : List Event)
    (n : ℕ) (rows : Rows)
    → AwaitsSwitch counted sys budgets events n c.args.event rows c.args.last c.args.self.now
    → StandsSo sys events n c.in-Some.v c.before_run.result
stands c counted sys budgets events n rows waits =
    rw c.before_run.ensures (next_stands sys waits.system events n c.in-Some.v c.args.event rows c.args.last
    waits.awaits.next waits.last_is (c.requires.runs ∙ c.in-Some.is))

pub advance-requires : goal.advance-requires
advance-requires c =
    let (counted, sys, budgets, events, n, rows, waits) = c.requires.awaits in (
      counted,
      sys,
      budgets,
      events,
      n,
      rows,
      stands (goal.at.advance-requires c).After-before_run counted sys budgets events n rows waits,
      waits.awaits,
    )

pub returns-in-Some-clause-awaits : goal.returns-in-Some-clause-awaits
returns-in-Some-clause-awaits c counted sys budgets events n rows waits = record {
  system = waits.system;
  last_is = waits.last_is;
  awaits =
      c.advance.ensures.awaits counted sys budgets events n rows
      (stands (goal.at.returns-in-Some-clause-awaits c).After-before_run counted sys budgets events n rows waits)
      waits.awaits;
}
