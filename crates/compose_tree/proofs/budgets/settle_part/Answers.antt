use Rattle.std.proofs.Common.{◌≡◌, ℕ, true, List, length, take, Option, Some, None, is_none, refl, ap, subst, arith, ◌∙◌}
use Rattle.std.proofs.lemmas.Bool.{and_parts}
use Rattle.std.proofs.lemmas.Result.{IfOk-weaker, IfErr-weaker}
use Rattle.slot_model.specs.Task.{SporadicTask, sporadic_tasks}
use Rattle.slot_model.specs.Bound.{sbf}
use Rattle.least_budget.specs.declared.answers.Least.TheVariants.{Budget}
use Rattle.least_budget.specs.Answers.{IsShortBelow}
use Rattle.tree_model.specs.declared.place.Place.TheVariants.{Part}
use Rattle.tree_model.specs.View.{PartView}
use Rattle.tree_model.specs.System.{part_at}
use Rattle.tree_model.specs.Tree.{node_sched, node_tasks, node_cycle}
use Rattle.tree_model.specs.Admission.{refusing_bound}
use Rattle.tree_model.proofs.NodeTasks.{leaf_tasks, part_here}
use Rattle.tree_model.proofs.InRange.{children_fit}
use Rattle.compose_tree.specs.Steps.{NodeRefuses}
use Rattle.compose_tree.proofs.Settling.{assign_one, pass_one, before_part, node_refuses}
use Rattle.compose_tree.proofs.budgets.settle_part.Goals as goal

pub write_tasks-count-requires-clause-in_period : goal.write_tasks-count-requires-clause-in_period
write_tasks-count-requires-clause-in_period c =
    children_fit c.args.sys.now c.parts.ensures.system c.args.budgets.now (Part c.args.q) c.requires.assigned

-- the part as it is read, and its tasks
here : (c : goal.After-part_budget) → c.index-parts-q.result ≡ part_at c.args.sys.now c.args.q
here c =
    part_here c.args.sys.now c.parts.result.now c.args.q c.index-parts-q.result c.parts.ensures.parts
    (omega (arith, ap (λ (ps : List PartView). length ps) c.parts.ensures.parts)) c.index-parts-q.is

-- no budget is given
none_of : (given : Option ℕ) → is_none given ≡ true → given ≡ None
none_of None e = refl
none_of (Some given) e = absurd (cc)

same : (c : goal.After-part_budget)
    → sporadic_tasks (take c.write_tasks-count.result c.write_tasks-count.new.room)
    ≡ node_tasks c.args.sys.now c.args.budgets.now (Part c.args.q)
same c = c.write_tasks-count.ensures.tasks

pub returns-clause-assigned : goal.returns-clause-assigned
returns-clause-assigned c =
    IfOk-weaker c.part_budget.result _ _
    (λ s h.
    assign_one c.args.sys.now c.parts.ensures.system c.args.budgets.now c.args.q s.budget c.requires.is_part
    c.requires.assigned _ (same c)
    (rw (here c) at h.is)) c.part_budget.ensures.budget

pub returns-clause-pass : goal.returns-clause-pass
returns-clause-pass c =
    IfOk-weaker c.part_budget.result _ _
    (λ s h.
    pass_one c.args.sys.now c.parts.ensures.system c.args.budgets.now c.args.q s.budget
    (omega (arith, c.requires.is_part, c.requires.assigned.one_each)) c.requires.pass _ (same c)
    (rw (here c) at h.passes)) c.part_budget.ensures.budget

pub returns-clause-below : goal.returns-clause-below
returns-clause-below c asked computed =
    let kinds = and_parts _ _ computed in
    let given : c.index-parts-q.result.budget ≡ None
    = ap (λ (part : PartView). part.budget) (here c) ∙ none_of (part_at c.args.sys.now c.args.q).budget kinds.0 in
    IfOk-weaker c.part_budget.result _ _
    (λ s h.
    subst (λ (ts : List SporadicTask). IsShortBelow (part_at c.args.sys.now c.args.q).sched ts
    (sbf (part_at c.args.sys.now c.args.q).period) (Budget s.budget) s.below)
    (same c ∙ leaf_tasks c.args.sys.now c.args.budgets.now c.args.q kinds.1)
    (subst (λ (part : PartView). IsShortBelow part.sched
    (sporadic_tasks (take c.write_tasks-count.result c.write_tasks-count.new.room)) (sbf part.period)
    (Budget s.budget) s.below) (here c) h)) (c.part_budget.ensures.below asked given)

pub returns-clause-refuses : goal.returns-clause-refuses
returns-clause-refuses c =
    IfErr-weaker c.part_budget.result _ _
    (λ r h.
    subst (λ (ts : List SporadicTask). NodeRefuses (node_sched c.args.sys.now (Part c.args.q)) ts
    (refusing_bound c.args.sys.now (Part c.args.q)) (node_cycle c.args.sys.now (Part c.args.q)) (Part c.args.q) r)
    (same c) (rw (here c) at h)) c.part_budget.ensures.refuses

pub returns-clause-refusal : goal.returns-clause-refusal
returns-clause-refusal c =
    IfErr-weaker c.part_budget.result _ _
    (λ r h.
    node_refuses c.args.sys.now c.args.budgets.now (Part c.args.q) c.requires.is_part
    (before_part c.args.sys.now c.args.budgets.now c.args.q c.requires.assigned c.requires.pass) _ refl r h)
    (returns-clause-refuses c)
