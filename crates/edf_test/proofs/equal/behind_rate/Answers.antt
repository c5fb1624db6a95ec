use Rattle.std.proofs.Common.{arith}
use Rattle.slot_model.proofs.Rising.{bound-le}
use Rattle.edf_test.proofs.NeverMeets.{latest_fits, product_fits}
use Rattle.edf_test.proofs.equal.behind_rate.Goals as goal

pub overflow_mul-amount : goal.overflow_mul-amount
overflow_mul-amount g c =
    omega (
      arith,
      latest_fits c.amount_of-amount.result c.cycle-cycle.result
          (omega (arith, c.amount_of-amount.ensures.in_cycle, c.cycle-cycle.ensures)) c.cycle-cycle.type_inv,
    )

pub overflow_mul-least : goal.overflow_mul-least
overflow_mul-least g c =
    let laws = g.met.S.Supply.laws c.args.s.now in
    omega (
      arith,
      product_fits c.least.result c.cycle-cycle.result (omega (
        arith,
        c.least.ensures,
        bound-le (g.S.Supply.bound c.args.s.now) laws.none_at_zero laws.rises_by_one
            c.cycle-cycle.result,
      )) c.cycle-cycle.type_inv,
    )
