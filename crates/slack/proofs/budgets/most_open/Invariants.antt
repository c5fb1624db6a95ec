use Rattle.std.proofs.Common.{◌≡◌, ◌-◌, length}
use Rattle.slack.proofs.Halving.{BudgetBetween, IsTrial}
use Rattle.slack.proofs.budgets.most_open.Given as goal

-- the trial is one, its budgets are as many, and the greatest budget of the leaf is between the two
abbrev pub invariant-loop-low : goal.invariant-loop-low
invariant-loop-low l = record {
  trial : IsTrial l.sys l.trial l.q;
  long : length l.budgets ≡ length l.plan;
  between : BudgetBetween l.sys l.q l.low l.high;
}

abbrev pub decreases-loop-low : goal.decreases-loop-low
decreases-loop-low l = l.high - l.low
