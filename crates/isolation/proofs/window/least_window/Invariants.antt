use Rattle.std.proofs.Common.{◌+◌, ◌-◌, ◌≤◌}
use Rattle.isolation.specs.inner.Ties.{tie_of}
use Rattle.isolation.proofs.Least.{TooFewBelow}
use Rattle.isolation.proofs.window.least_window.Given as goal

-- all numbers below the one that is tried are too few
abbrev pub invariant-loop-last : goal.invariant-loop-last
invariant-loop-last l = record {
  some : 1 ≤ l.last;
  too_few : TooFewBelow (tie_of l.ties) l.sys l.plan l.core l.v l.last;
}

abbrev pub decreases-loop-last : goal.decreases-loop-last
decreases-loop-last l = l.period + 1 - l.last
