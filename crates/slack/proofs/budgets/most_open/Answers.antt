use Rattle.std.proofs.Common.{◌≡◌, ℕ, ◌-◌, ◌/◌, List, length, arith, sym, ap, subst, ◌∙◌, refl}
use Rattle.tree_model.specs.declared.place.Place.TheVariants.{Part}
use Rattle.tree_model.specs.View.{PartView, SystemView}
use Rattle.tree_model.specs.System.{part_at}
use Rattle.tree_model.specs.Tree.{budget_at}
use Rattle.tree_model.proofs.NodeTasks.{part_here}
use Rattle.compose_tree.specs.Kept.{IsKept}
use Rattle.admission_session.specs.Answers.{IsAdmitted}
use Rattle.admission_session.proofs.KeptByEdits.{kept_by_change}
use Rattle.slack.specs.inner.Steps.{part_with_budget, with_budget}
use Rattle.slack.proofs.Halving.{BudgetBetween, IsTrial, budget_begins, budget_higher, budget_lower, budget_ends, trial_begins, trial_goes_on}
use Rattle.slack.proofs.budgets.most_open.Goals as goal
use Rattle.slack.proofs.budgets.most_open.Goals.{After-with_budget-trial}

pub loop-low-init : goal.loop-low-init
loop-low-init c =
    let sys = c.args.sys.now in
    let here : c.index-parts-q.result ≡ part_at c.args.sys.now c.args.q
    = part_here c.args.sys.now c.parts.result.now c.args.q c.index-parts-q.result c.parts.ensures.parts
    (omega (arith, c.requires.is_part, ap (λ (ps : List PartView). length ps) c.parts.ensures.parts))
    c.index-parts-q.is in
    record {
      trial = trial_begins sys c.in_ok-trial.trial c.args.q c.in_ok-trial.ensures c.requires.is_part;
      long = omega (arith, c.in_ok-from_slice.ensures.len, ap (λ (b : List ℕ). length b) c.budgets-2.ensures);
      between = subst (λ (b : List ℕ). BudgetBetween sys c.args.q (budget_at b c.args.q) c.period-high.result)
          (sym c.budgets.ensures)
          (subst (λ (p : ℕ). BudgetBetween sys c.args.q (budget_at c.args.plan.now c.args.q) p)
          (sym (c.period-high.ensures ∙ ap (λ (p : PartView). p.period) here))
          (budget_begins sys c.parts.ensures.system c.args.q c.requires.is_part c.requires.leaf c.args.plan.now
          c.requires.admitted));
    }

-- what is tried gives the middle budget
tried : (c : After-with_budget-trial) → c.with_budget-trial.result
    ≡ with_budget c.args.sys.now c.args.q (c.loop-low.high - (c.loop-low.high - c.loop-low.low) / 2)
tried c =
    c.with_budget-trial.ensures
    ∙ c.loop-low.invariant.trial.same (c.loop-low.high - (c.loop-low.high - c.loop-low.low) / 2)

-- and other budgets can be tried in it
goes_on : (c : After-with_budget-trial) → IsTrial c.args.sys.now c.with_budget-trial.result c.args.q
goes_on c =
    trial_goes_on c.args.sys.now c.loop-low.trial c.with_budget-trial.result c.args.q
    (c.loop-low.high - (c.loop-low.high - c.loop-low.low) / 2) c.loop-low.invariant.trial c.with_budget-trial.ensures

pub is_admitted-requires-clause-kept : goal.is_admitted-requires-clause-kept
is_admitted-requires-clause-kept c =
    let middle = c.loop-low.high - (c.loop-low.high - c.loop-low.low) / 2 in
    subst (λ (s : SystemView). IsKept s c.args.plan.now (Part c.args.q))
    (sym (tried (goal.at.is_admitted-requires-clause-kept c).After-with_budget-trial))
    (kept_by_change c.args.sys.now c.args.q (part_with_budget (part_at c.args.sys.now c.args.q) middle) c.args.plan.now
    c.requires.is_part refl c.requires.admitted)

pub loop-low-preserved-then-is_admitted : goal.loop-low-preserved-then-is_admitted
loop-low-preserved-then-is_admitted c =
    let at = (goal.at.loop-low-preserved-then-is_admitted c).After-with_budget-trial in
    record {
      trial = goes_on at;
      long = c.is_admitted.ensures.long;
      between =
          budget_higher c.args.sys.now c.args.q c.loop-low.low c.loop-low.high
          (c.loop-low.high - (c.loop-low.high - c.loop-low.low) / 2)
          (omega (arith, c.loop-low-test.true))
          (omega arith)
          (subst IsAdmitted (tried at) (c.is_admitted.ensures.admitted.0 c.if-is_admitted.true))
          c.loop-low.invariant.between;
    }

pub loop-low-preserved : goal.loop-low-preserved
loop-low-preserved c =
    let at = (goal.at.loop-low-preserved c).After-with_budget-trial in
    record {
      trial = goes_on at;
      long = c.is_admitted.ensures.long;
      between =
          budget_lower c.args.sys.now c.parts.ensures.system c.args.q c.requires.is_part c.requires.leaf
          c.loop-low.low
          c.loop-low.high
          (c.loop-low.high - (c.loop-low.high - c.loop-low.low) / 2)
          (omega (arith, c.loop-low-test.true)) (omega arith)
          (λ made. let e = c.is_admitted.ensures.admitted.1 (subst IsAdmitted (sym (tried at)) made) in
          let f = c.if-is_admitted.false in absurd (cc))
          c.loop-low.invariant.between;
    }

pub returns : goal.returns
returns c =
    budget_ends c.args.sys.now c.args.q c.loop-low.low c.loop-low.high (omega (arith, c.loop-low-test.false))
    c.requires.computed c.loop-low.invariant.between
