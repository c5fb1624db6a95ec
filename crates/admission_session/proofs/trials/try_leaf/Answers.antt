use Rattle.std.proofs.Common.{rules, ◌≡◌, List, [], ◌∷◌, ◌++◌, length, ◌∙◌, ap}
use Rattle.tree_model.specs.View.{PartView}
use Rattle.admission_session.specs.Leaves.{with_leaf}
use Rattle.admission_session.proofs.MadeSystems.{add_keeps}
use Rattle.admission_session.proofs.OneBudget.{budget_off}
use Rattle.admission_session.proofs.TakenBack.{off_system, off_is}
use Rattle.admission_session.proofs.trials.try_leaf.Goals as goal
use Rattle.admission_session.proofs.trials.try_leaf.Goals.{In_default}

-- the leaf stands behind all parts, and its budget behind all budgets
put : (c : In_default) → c.push_leaf.new.sys ≡ with_leaf c.args.sys.now c.args.leaf
put c = search rules

more : (c : In_default) → c.one_budget_more.new.plan ≡ c.args.plan.now ++ 1 ∷ []
more c = search rules

pub recompose-requires-clause-kept : goal.recompose-requires-clause-kept
recompose-requires-clause-kept c =
    let here = (goal.at.recompose-requires-clause-kept c).In_default in
    add_keeps c.args.sys.now c.push_leaf.new.sys c.args.leaf c.args.plan.now c.one_budget_more.new.plan 1
    (length c.parts.result.now) (put here) (more here) (ap (λ (ps : List PartView). length ps) c.parts.ensures.parts)
    c.requires.admitted

pub pop_leaf-requires-clause-system : goal.pop_leaf-requires-clause-system
pop_leaf-requires-clause-system c =
    off_system c.args.sys.now c.push_leaf.new.sys c.args.leaf c.parts.ensures.system
    (put (goal.at.pop_leaf-requires-clause-system c).In_default)

pub returns-in-Err-recompose-clause-unchanged : goal.returns-in-Err-recompose-clause-unchanged
returns-in-Err-recompose-clause-unchanged c =
    let here = (goal.at.returns-in-Err-recompose-clause-unchanged c).In_default in (
      off_is c.args.sys.now c.push_leaf.new.sys c.pop_leaf.new.sys c.args.leaf (put here) c.pop_leaf.ensures.taken,
      budget_off c.args.plan.now c.recompose.new.plan c.one_budget_less-in-Err-recompose.new.plan 1
          (c.in-Err-recompose.ensures.unchanged ∙ more here) c.one_budget_less-in-Err-recompose.ensures,
    )
