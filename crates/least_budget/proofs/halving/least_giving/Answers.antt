use Rattle.std.proofs.Common.{◌≡◌, ℕ, ◌+◌, ◌-◌, ◌/◌, ap, arith}
use Rattle.least_budget.proofs.halving.least_giving.Goals as goal

-- no smaller budget gives more there
pub loop-least-preserved-then-least-asked : goal.loop-least-preserved-then-least-asked
loop-least-preserved-then-least-asked g c =
    let middle : ℕ = c.loop-least.least + (c.loop-least.enough - c.loop-least.least) / 2 in
    let bound : ℕ → ℕ → ℕ = g.S.Budgeted.bound_with c.args.s.now in
    let at : c.least.result ≡ bound middle c.args.t = omega
    (arith, c.least.ensures, ap (λ (b : ℕ → ℕ). b c.args.t) {y = bound middle} c.with_budget.ensures.bound) in
    record {
      not_below = omega (arith, c.loop-least.invariant.not_below);
      in_order = omega arith;
      in_range = c.loop-least.invariant.in_range;
      enough = c.loop-least.invariant.enough;
      short =
          λ b from below. omega (
            arith,
            at,
            c.if-least-asked.true,
            (g.met.S.Budgeted.budget_laws c.args.s.now).more b middle c.args.t (omega arith)
                (omega (arith, c.loop-least.invariant.in_range, c.requires.in_range)),
          );
    }
