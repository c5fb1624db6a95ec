use Rattle.std.proofs.Common.{◌≡◌, ℕ, ◌+◌, ◌<◌, List, length, get_or, ap, arith}
use Rattle.tree_model.specs.View.{PartView}
use Rattle.tree_model.specs.System.{part_at}
use Rattle.tree_model.specs.Tree.{budget_at}
use Rattle.tree_model.proofs.NodeTasks.{part_here}
use Rattle.isolation.proofs.Sums.{none_summed, one_more}
use Rattle.isolation.proofs.budgets.budgets_of.Goals as goal

pub loop-u-init : goal.loop-u-init
loop-u-init c =
    let first = c.requires.neighbours.first c.args.core c.requires.is_core in
    let part : c.index-parts-first.result ≡ part_at c.args.sys.now (get_or c.args.neighbours.now.first c.args.core 0)
    = part_here c.args.sys.now c.parts-2.result.now (get_or c.args.neighbours.now.first c.args.core 0)
    c.index-parts-first.result c.parts-2.ensures.parts
    (omega (arith, c.requires.has_part, ap (λ (ps : List PartView). length ps) c.parts-2.ensures.parts))
    c.index-parts-first.is in
    record {
      within = first.within;
      here = first.here;
      summed = none_summed c.args.sys.now c.args.plan.now c.args.core (get_or c.args.neighbours.now.first c.args.core 0)
          c.period-shortest.result first c.requires.has_part
          (omega (arith, c.period-shortest.ensures, ap (λ (p : PartView). p.period) part));
      few = omega arith;
    }

pub loop-u-preserved : goal.loop-u-preserved
loop-u-preserved c =
    let here : c.loop-u.u < length c.args.sys.now.parts
    = omega (arith, ap (λ (ps : List PartView). length ps) c.parts-in-loop-u.ensures.parts, c.loop-u-test.true) in
    let on = c.loop-u.invariant.here here in
    let next = c.requires.neighbours.next c.args.core c.loop-u.u (omega arith) here on in
    let part : c.index-parts-u.result ≡ part_at c.args.sys.now c.loop-u.u
    = part_here c.args.sys.now c.parts-in-loop-u-2.result.now c.loop-u.u c.index-parts-u.result
    c.parts-in-loop-u-2.ensures.parts
    (omega (arith, here, ap (λ (ps : List PartView). length ps) c.parts-in-loop-u-2.ensures.parts))
    c.index-parts-u.is in
    let budget : get_or c.budgets.result.now c.loop-u.u 0 ≡ budget_at c.args.plan.now c.loop-u.u
    = ap (λ (bs : List ℕ). budget_at bs c.loop-u.u) c.budgets.ensures in
    record {
      within = next.within;
      here = next.here;
      summed = one_more c.args.sys.now c.args.plan.now c.args.core c.loop-u.budgets c.loop-u.shortest c.loop-u.u
          (get_or c.args.neighbours.now.next c.loop-u.u 0) here on next c.loop-u.invariant.summed
          (c.loop-u.budgets + get_or c.budgets.result.now c.loop-u.u 0) c.min-shortest.result (omega (arith, budget))
          (omega (arith, c.min-shortest.ensures, c.period.ensures, ap (λ (p : PartView). p.period) part));
      few = omega (
        arith,
        c.loop-u.invariant.few,
        budget,
        c.requires.plan.in_period c.loop-u.u here,
        (c.parts-in-loop-u.ensures.system.parts c.loop-u.u here).period.1,
        next.behind,
      );
    }
