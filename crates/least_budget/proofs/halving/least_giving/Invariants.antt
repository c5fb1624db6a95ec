use Rattle.std.proofs.Common.{ℕ, ◌-◌, ◌<◌, ◌≤◌}
use Rattle.least_budget.proofs.halving.least_giving.Given as goal

abbrev pub invariant-loop-least : goal.invariant-loop-least
invariant-loop-least g l =
    record {
      not_below : l.low ≤ l.least;
      in_order : l.least ≤ l.enough;
      in_range : l.enough ≤ l.high;
      enough : l.asked ≤ g.S.Budgeted.bound_with l.s l.enough l.t;
      short : (b : ℕ) → l.low ≤ b → b < l.least → g.S.Budgeted.bound_with l.s b l.t < l.asked;
    }

abbrev pub decreases-loop-least : goal.decreases-loop-least
decreases-loop-least g l = l.enough - l.least
