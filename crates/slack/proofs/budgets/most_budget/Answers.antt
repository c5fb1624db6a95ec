use Rattle.std.proofs.Common.{◌≡◌, List, length, arith, sym, ap, ◌∙◌}
use Rattle.tree_model.specs.View.{PartView}
use Rattle.tree_model.specs.System.{part_at}
use Rattle.tree_model.proofs.NodeTasks.{part_here}
use Rattle.slack.proofs.Halving.{most_given}
use Rattle.slack.proofs.budgets.most_budget.Goals as goal
use Rattle.slack.proofs.budgets.most_budget.Goals.{After-index-parts-q}

-- the part that is read is part q of the system
here : (c : After-index-parts-q) → c.index-parts-q.result ≡ part_at c.args.sys.now c.args.q
here c =
    part_here c.args.sys.now c.parts.result.now c.args.q c.index-parts-q.result c.parts.ensures.parts
    (omega (arith, c.requires.is_part, ap (λ (ps : List PartView). length ps) c.parts.ensures.parts))
    c.index-parts-q.is

pub returns-in-Some : goal.returns-in-Some
returns-in-Some c =
    let part = here (goal.at.returns-in-Some c).After-index-parts-q in
    most_given c.args.sys.now c.parts.ensures.system c.args.q c.requires.is_part c.requires.leaf c.args.plan.now
    c.requires.admitted c.in-Some.budget
    (sym (ap (λ (p : PartView). p.budget) part) ∙ sym c.in-Some.ensures)

pub most_open-requires-clause-computed : goal.most_open-requires-clause-computed
most_open-requires-clause-computed c =
    let part = here (goal.at.most_open-requires-clause-computed c).After-index-parts-q in
    sym (ap (λ (p : PartView). p.budget) part) ∙ sym c.in-None.ensures
