use Rattle.std.proofs.Common.{◌-◌, ◌+◌, ◌^◌, arith}
use Rattle.supply_bound.proofs.NextWindow.{none_later, later_next}
use Rattle.supply_bound.proofs.WindowAfter.{AfterBudget, after_window}
use Rattle.supply_bound.proofs.next_window.window_after_by.Goals as goal
use Rattle.supply_bound.proofs.next_window.window_after_by.Goals.{After-first_after-from}

begins : (c : After-first_after-from)
    → AfterBudget c.args.period c.args.budget c.args.deadline c.args.last.until (2 ^ 64 - 1) c.first_after-from.result
begins c =
    after_window c.args.period c.args.budget c.args.deadline c.args.below (2 ^ 64 - 1) c.first_after-from.result
    c.args.last c.requires.some_deadline c.requires.in_deadline c.requires.in_period c.requires.is_window
    (omega (arith, c.if-below-last.false)) c.first_after-from.ensures.second c.first_after-from.ensures.later

pub returns-then-below-from : goal.returns-then-below-from
returns-then-below-from c =
    let t = begins (goal.at.returns-then-below-from c).After-first_after-from in
    none_later c.args.period c.args.budget c.args.deadline c.args.last.until c.args.below t.begin
    (t.begin + (c.args.deadline - c.args.budget)) c.requires.in_deadline c.requires.in_period t.next
    (omega (arith, t.later)) (omega (arith, t.is_told, c.ranges.below.fits))

pub returns : goal.returns
returns c =
    let t = begins (goal.at.returns c).After-first_after-from in
    later_next c.args.period c.args.budget c.args.deadline c.args.last.until c.args.below t.begin
    c.first_after-from.result c.min-until.result t.some c.requires.in_deadline c.requires.in_period t.some_gap t.next
    (omega (arith, t.is_told, t.later, c.ranges.below.fits)) (omega arith)
    (omega (
      arith,
      c.min-until.ensures,
      c.saturating_add.ensures,
      t.is_told,
      c.requires.in_deadline,
      c.ranges.below.fits,
    ))
