use Rattle.std.proofs.Common.{◌-◌, ◌*◌, ◌/◌, ◌≤◌, ◌^◌, arith, div-mul-le_self}
use Rattle.edf_demand.proofs.Horizons.{rises_of_laws}
use Rattle.slot_model.proofs.Rising.{bound-le}
use Rattle.edf_test.proofs.Lines.{rises_by, part_small, latest_small, bound_above}
use Rattle.edf_test.proofs.settled.supply_line.Goals as goal
use Rattle.edf_test.proofs.settled.supply_line.Goals.{After-amount_of-amount}

-- no more is given in a cycle than it has slots, and some slots it has
in_cycle : (g : _) (c : After-amount_of-amount g) → c.amount_of-amount.result ≤ c.cycle-cycle.result
in_cycle g c = omega (arith, c.amount_of-amount.ensures.in_cycle, c.cycle-cycle.ensures)

some : (g : _) (c : After-amount_of-amount g) → 1 ≤ c.cycle-cycle.result
some g c = omega (arith, (g.met.S.Supply.laws c.args.s.now).some_cycle, c.cycle-cycle.ensures)

-- so the latest part of the line is small
small : (g : _) (c : After-amount_of-amount g)
    → c.amount_of-amount.result * 2 ^ 60 / c.cycle-cycle.result * (2 * c.cycle-cycle.result - c.amount_of-amount.result)
    ≤ 2 ^ 125
small g c =
    latest_small (c.amount_of-amount.result * 2 ^ 60 / c.cycle-cycle.result) c.cycle-cycle.result
    c.amount_of-amount.result
    (part_small c.amount_of-amount.result c.cycle-cycle.result (some g c) (in_cycle g c)) c.cycle-cycle.type_inv

pub overflow_mul-latest : goal.overflow_mul-latest
overflow_mul-latest g c = omega (arith, small g (goal.at.overflow_mul-latest g c).After-amount_of-amount)

-- the first cycle gives no more than its slots
pub overflow_mul-least : goal.overflow_mul-least
overflow_mul-least g c =
    let laws = g.met.S.Supply.laws c.args.s.now in
    omega (
      arith,
      c.least.ensures,
      bound-le _ laws.none_at_zero laws.rises_by_one c.cycle-cycle.result,
      c.cycle-cycle.type_inv,
    )

pub returns-clause-below : goal.returns-clause-below
returns-clause-below g c t later =
    let laws = g.met.S.Supply.laws c.args.s.now in
    let at = (goal.at.returns-clause-below g c).After-amount_of-amount in
    bound_above (g.S.Supply.bound c.args.s.now) c.amount_of-amount.result c.cycle-cycle.result (2 ^ 60)
    (c.amount_of-amount.result * 2 ^ 60 / c.cycle-cycle.result) c.saturating_sub.result
    (rises_by _ _ _ c.amount_of-amount.result c.cycle-cycle.result (rises_of_laws _ _ _ _ _ _ laws)
    c.amount_of-amount.ensures.exact c.cycle-cycle.ensures) laws.never_falls laws.rises_by_one (some g at)
    (in_cycle g at)
    (part_small c.amount_of-amount.result c.cycle-cycle.result (some g at) (in_cycle g at))
    (div-mul-le_self (c.amount_of-amount.result * 2 ^ 60) c.cycle-cycle.result)
    (omega (arith, c.saturating_sub.ensures, c.least.ensures)) t (omega (arith, later, c.cycle-cycle.ensures))

pub returns-clause-small : goal.returns-clause-small
returns-clause-small g c =
    omega (arith, c.saturating_sub.ensures, small g (goal.at.returns-clause-small g c).After-amount_of-amount)
