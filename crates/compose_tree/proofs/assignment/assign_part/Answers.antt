use Rattle.std.proofs.Common.{◌≡◌, List, length, take, ap, arith, ◌∙◌, sym}
use Rattle.std.proofs.lemmas.Result.{IfOk-weaker, IfErr-weaker}
use Rattle.slot_model.specs.Task.{sporadic_tasks}
use Rattle.tree_model.specs.declared.place.Place.TheVariants.{Part}
use Rattle.tree_model.specs.View.{PartView}
use Rattle.tree_model.specs.System.{part_at}
use Rattle.tree_model.specs.Tree.{node_tasks}
use Rattle.tree_model.proofs.NodeTasks.{part_here}
use Rattle.tree_model.proofs.InRange.{children_fit}
use Rattle.compose_tree.proofs.Settling.{assign_one, node_unassigned}
use Rattle.compose_tree.proofs.assignment.assign_part.Goals as goal

pub write_tasks-count-requires-clause-in_period : goal.write_tasks-count-requires-clause-in_period
write_tasks-count-requires-clause-in_period c =
    children_fit c.args.sys.now c.parts.ensures.system c.args.budgets.now (Part c.args.q) c.requires.assigned

-- the part as it is read, and its tasks
here : (c : goal.After-untested_budget) → c.index-parts-q.result ≡ part_at c.args.sys.now c.args.q
here c =
    part_here c.args.sys.now c.parts.result.now c.args.q c.index-parts-q.result c.parts.ensures.parts
    (omega (arith, ap (λ (ps : List PartView). length ps) c.parts.ensures.parts)) c.index-parts-q.is

same : (c : goal.After-untested_budget)
    → sporadic_tasks (take c.write_tasks-count.result c.write_tasks-count.new.room)
    ≡ node_tasks c.args.sys.now c.args.budgets.now (Part c.args.q)
same c = c.write_tasks-count.ensures.tasks

pub returns-clause-assigned : goal.returns-clause-assigned
returns-clause-assigned c =
    IfOk-weaker c.untested_budget.result _ _
    (λ b h.
    assign_one c.args.sys.now c.parts.ensures.system c.args.budgets.now c.args.q b c.requires.is_part
    c.requires.assigned _ (same c)
    (rw (here c) at h)) c.untested_budget.ensures.budget

pub returns-clause-refusal : goal.returns-clause-refusal
returns-clause-refusal c =
    IfErr-weaker c.untested_budget.result _ _
    (λ r h.
    node_unassigned c.args.sys.now c.args.budgets.now (Part c.args.q) c.requires.is_part
    (sym (ap (λ (part : PartView). part.budget) (here c)) ∙ h.0) c.requires.assigned _ (same c) r
    (rw (here c) at h.1)) c.untested_budget.ensures.refuses
