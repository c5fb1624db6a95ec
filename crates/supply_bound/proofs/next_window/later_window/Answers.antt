use Rattle.std.proofs.Common.{◌+◌, ◌-◌, ◌^◌, max, arith, refl}
use Rattle.supply_bound.proofs.NextWindow.{ToldBudget, told_budget, none_later, later_next}
use Rattle.supply_bound.proofs.next_window.later_window.Goals as goal
use Rattle.supply_bound.proofs.next_window.later_window.Goals.{After-next_begin-begin}

begins : (c : After-next_begin-begin)
    → ToldBudget c.args.period c.args.budget c.args.deadline c.args.from (2 ^ 64 - 1) c.next_begin-begin.result
begins c =
    told_budget c.args.period c.args.budget c.args.deadline c.args.from (2 ^ 64 - 1) c.next_begin-begin.result
    c.requires.some_budget c.requires.in_deadline c.requires.in_period c.requires.past
    (omega (arith, c.ranges.from.fits)) (omega (arith, c.ranges.period.fits)) c.next_begin-begin.ensures.first
    c.next_begin-begin.ensures.same c.next_begin-begin.ensures.next

pub returns-then-first-below : goal.returns-then-first-below
returns-then-first-below c =
    let t = begins (goal.at.returns-then-first-below c).After-next_begin-begin in
    none_later c.args.period c.args.budget c.args.deadline c.args.from c.args.below t.begin
    (max (t.begin + (c.args.deadline - c.args.budget)) c.args.from) c.requires.in_deadline c.requires.in_period t.next
    refl (omega (arith, c.max-first.ensures, c.saturating_add.ensures, t.is_told, c.ranges.below.fits))

pub returns : goal.returns
returns c =
    let t = begins (goal.at.returns c).After-next_begin-begin in
    later_next c.args.period c.args.budget c.args.deadline c.args.from c.args.below t.begin c.max-first.result
    c.min-until.result c.requires.some_budget c.requires.in_deadline c.requires.in_period c.requires.some_gap t.next
    (omega (arith, c.max-first.ensures, c.saturating_add.ensures, t.is_told, c.ranges.below.fits)) (omega arith)
    (omega (
      arith,
      c.min-until.ensures,
      c.max-first.ensures,
      c.saturating_add.ensures,
      c.saturating_add-2.ensures,
      t.is_told,
      c.ranges.below.fits,
    ))
