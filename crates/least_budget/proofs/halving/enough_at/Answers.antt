use Rattle.std.proofs.Common.{arith}
use Rattle.slot_model.proofs.Rising.{bound-le}
use Rattle.least_budget.proofs.halving.enough_at.Goals as goal

-- no window of 128 bits gives so many slots
pub returns-in-None : goal.returns-in-None
returns-in-None g c =
    let laws = (g.met.S.Budgeted.budget_laws c.args.s.now).each c.args.high c.requires.in_range in
    absurd (omega (
      arith,
      bound-le (g.S.Budgeted.bound_with c.args.s.now c.args.high) laws.none_at_zero laws.rises_by_one c.args.t,
      c.requires.enough,
      c.in-None.ensures,
      c.ranges.t.fits,
    ))
