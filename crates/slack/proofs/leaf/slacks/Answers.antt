use Rattle.std.proofs.Common.{◌≡◌, List, length, arith, ap, ◌∙◌}
use Rattle.slot_model.specs.Task.{sporadic_tasks}
use Rattle.tree_model.specs.View.{PartView}
use Rattle.tree_model.specs.System.{part_at, own_tasks, own_tasks_at}
use Rattle.tree_model.proofs.NodeTasks.{part_here}
use Rattle.slack.proofs.Reading.{read_passes, are_most, both_ok}
use Rattle.slack.proofs.leaf.slacks.Goals as goal
use Rattle.slack.proofs.leaf.slacks.Goals.{After-index-parts-q}

-- the part that is read is part q of the system
here : (c : After-index-parts-q) → c.index-parts-q.result ≡ part_at c.args.sys.now c.args.q
here c =
    part_here c.args.sys.now c.parts.result.now c.args.q c.index-parts-q.result c.parts.ensures.parts
    (omega (arith, c.requires.is_part, ap (λ (ps : List PartView). length ps) c.parts.ensures.parts))
    c.index-parts-q.is

pub most_works-requires-clause-passes : goal.most_works-requires-clause-passes
most_works-requires-clause-passes c =
    let part = here (goal.at.most_works-requires-clause-passes c).After-index-parts-q in
    read_passes c.args.sys.now c.args.q c.requires.is_part c.requires.leaf c.in_ok-budget.budget c.in_ok-budget.ensures
    c.sched.result (sporadic_tasks c.deref_mut.result.now) c.period.result
    (c.sched.ensures ∙ ap (λ (p : PartView). p.sched) part)
    (ap sporadic_tasks c.deref_mut.ensures.value ∙ (c.in_ok-tasks.ensures.tasks ∙ ap own_tasks part))
    (c.period.ensures ∙ ap (λ (p : PartView). p.period) part)

pub returns : goal.returns
returns c =
    let part = here (goal.at.returns c).After-index-parts-q in
    let read : sporadic_tasks c.deref_mut.result.now ≡ own_tasks_at c.args.sys.now c.args.q
    = ap sporadic_tasks c.deref_mut.ensures.value ∙ (c.in_ok-tasks.ensures.tasks ∙ ap own_tasks part) in
    both_ok c.most_works.result _ _ _
    (λ works long most. are_most c.args.sys.now c.parts.ensures.system c.args.q c.requires.is_part c.requires.leaf
    c.in_ok-budget.budget c.in_ok-budget.ensures c.sched.result c.deref_mut.result.now c.period.result
    (c.sched.ensures ∙ ap (λ (p : PartView). p.sched) part) read
    (c.period.ensures ∙ ap (λ (p : PartView). p.period) part) works.items long most)
    c.most_works.ensures.one_each c.most_works.ensures.most
