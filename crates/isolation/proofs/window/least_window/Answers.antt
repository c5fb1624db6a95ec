use Rattle.std.proofs.Common.{◌<◌, ℕ, List, sym, ap, subst, arith}
use Rattle.tree_model.specs.Tree.{budget_at}
use Rattle.isolation.specs.Demand.{asked}
use Rattle.isolation.specs.inner.Ties.{tie_of}
use Rattle.isolation.proofs.Least.{TooFewBelow, few_first}
use Rattle.isolation.proofs.Whole.{one_slot, asked-le-whole, few_more}
use Rattle.isolation.proofs.window.least_window.Goals as goal

pub loop-last-init : goal.loop-last-init
loop-last-init c = record {
  some = omega (
    arith,
    ap (λ (bs : List ℕ). budget_at bs c.args.v) c.budgets.ensures,
    c.requires.plan.some_budget c.args.v c.requires.is_part,
  );
  too_few = subst (λ (bs : List ℕ). TooFewBelow (tie_of c.args.ties) c.args.sys.now c.args.plan.now c.args.core
      c.args.v (budget_at bs c.args.v)) (sym c.budgets.ensures) (few_first (tie_of c.args.ties) c.args.sys.now
      c.args.plan.now c.args.core c.args.v c.requires.is_part c.requires.on_core);
}

pub loop-last-preserved : goal.loop-last-preserved
loop-last-preserved c =
    let tie : ℕ → ℕ → ℕ = tie_of c.args.ties in
    let more : c.loop-last.last < asked tie c.args.sys.now c.args.plan.now c.args.core c.args.v c.loop-last.last
    = omega (arith, c.if-needed-last.false, c.asked_in-needed.ensures.exact) in
    record {
      some = omega (
        arith,
        more,
        c.asked_in-needed.ensures.whole,
        asked-le-whole tie c.args.sys.now c.args.plan.now c.args.core c.args.v c.requires.plan c.loop-last.last,
      );
      too_few = subst (λ (z : ℕ). TooFewBelow tie c.args.sys.now c.args.plan.now c.args.core c.args.v z)
          (sym c.asked_in-needed.ensures.whole) (few_more tie c.args.sys.now c.args.plan.now c.args.core c.args.v
          c.requires.plan c.loop-last.last
          (λ u. omega (arith, one_slot c.args.ties c.args.v u, c.loop-last.invariant.some)) more
          c.loop-last.invariant.too_few);
    }

pub loop-last-smaller : goal.loop-last-smaller
loop-last-smaller c =
    omega (
      arith,
      c.if-needed-last.false,
      c.loop-last-test.true,
      c.asked_in-needed.ensures.exact,
      c.asked_in-needed.ensures.whole,
      asked-le-whole (tie_of c.args.ties) c.args.sys.now c.args.plan.now c.args.core c.args.v c.requires.plan
          c.loop-last.last,
    )
