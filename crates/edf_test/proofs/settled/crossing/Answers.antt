use Rattle.std.proofs.Common.{ℕ, ◌+◌, ◌*◌, ◌^◌, ◌<◌, ◌≤◌, ◌-◌, ◌/◌, ap, arith}
use Rattle.edf_test.proofs.Lines.{past_crossing}
use Rattle.edf_test.proofs.settled.crossing.Goals as goal
use Rattle.edf_test.proofs.settled.crossing.Goals.{After-cycle-cycle}

-- past the crossing, and past the first cycle, what is at most the line is no more than the bound
meets : (g : _) (c : After-cycle-cycle g) (x t : ℕ)
    → c.in_ok-apart.apart / (c.supply_line-given.result.slope - c.args.asked.slope) < t → c.cycle-cycle.result ≤ t
    → x * 2 ^ 60 ≤ c.args.asked.slope * t + c.args.asked.offset → x ≤ g.S.Supply.bound c.args.s.now t
meets g c x t past later above =
    past_crossing x (g.S.Supply.bound c.args.s.now t) c.args.asked.slope
    c.args.asked.offset c.supply_line-given.result.slope c.supply_line-given.result.offset
    (c.in_ok-apart.apart / (c.supply_line-given.result.slope - c.args.asked.slope)) t above
    (c.supply_line-given.ensures.below t (omega (arith, later, c.cycle-cycle.ensures)))
    (omega (arith, c.if-given-asked.false))
    (ap (λ (z : ℕ). z / (c.supply_line-given.result.slope - c.args.asked.slope)) c.in_ok-apart.ensures.1) past

pub returns-then-last-cycle-clause-past : goal.returns-then-last-cycle-clause-past
returns-then-last-cycle-clause-past g c x t past above =
    let at = (goal.at.returns-then-last-cycle-clause-past g c).After-cycle-cycle in
    meets g at x t (omega (arith, past, c.if-last-cycle.true)) (omega (arith, past)) above

pub returns-else-last-cycle-clause-past : goal.returns-else-last-cycle-clause-past
returns-else-last-cycle-clause-past g c x t past above =
    let at = (goal.at.returns-else-last-cycle-clause-past g c).After-cycle-cycle in
    meets g at x t past (omega (arith, past, c.if-last-cycle.false)) above
