use Rattle.std.proofs.Common.{◌≡◌, ℕ, ◌<◌, ◌^◌, List, length, get_or, take, sym, ◌∙◌, ap, subst, arith}
use Rattle.slot_model.specs.declared.job.Job.{Job}
use Rattle.slot_model.specs.Task.{SporadicTask, sporadic_tasks}
use Rattle.slot_model.specs.Release.{synchronous}
use Rattle.slot_model.specs.Miss.{HoldsReleased}
use Rattle.tree_model.specs.declared.place.Parent.{Parent}
use Rattle.tree_model.specs.declared.place.Place.{Place}
use Rattle.tree_model.specs.View.{SystemView, PartView}
use Rattle.tree_model.specs.System.{part_at}
use Rattle.tree_model.specs.Tree.{IsNode, place_of, run_of, server_tasks, server_jobs, node_tasks}
use Rattle.tree_model.proofs.NodeTasks.{part_here}
use Rattle.tree_spans.specs.TreeSpans.{parent_of}
use Rattle.server_sched.specs.inner.SlotCounts.{HasRun}
use Rattle.server_sched.proofs.SlotCounted.{IsParent, is_parent}
use Rattle.server_sched.proofs.slot_counts.part_slots.Goals as goal
use Rattle.server_sched.proofs.slot_counts.part_slots.Goals.{After-place-parent, After-write_tasks-count}

-- the parent that the code reads
parent_read : (sys : SystemView) (q : ℕ) (parts : List PartView) (part : PartView) (parent : Parent) (place : Place)
    → parts ≡ sys.parts → q < length sys.parts → part ≡ get_or parts q part → parent ≡ part.parent
    → place ≡ place_of parent → place ≡ parent_of sys q
parent_read sys q parts part parent place same l is of_part of_parent =
    let here : part ≡ part_at sys q
    = part_here sys parts q part same (omega (arith, l, ap (λ (ps : List PartView). length ps) same)) is in
    of_parent ∙ (ap place_of of_part ∙ ap (λ (p : PartView). place_of p.parent) here)

-- here it is
read : (c : After-place-parent) → c.place-parent.result ≡ parent_of c.args.sys.now c.args.q
read c =
    parent_read c.args.sys.now c.args.q c.parts.result.now c.index-parts-q.result c.parent.result c.place-parent.result
    c.parts.ensures.parts c.requires.is_part c.index-parts-q.is c.parent.ensures c.place-parent.ensures

-- and what is known of it
parent : (c : After-place-parent)
    → IsParent c.args.sys.now c.args.budgets.now c.args.run.now.cores c.args.run.now.parts
    (parent_of c.args.sys.now c.args.q)
parent c =
    is_parent c.args.sys.now c.args.budgets.now c.args.run.now.cores c.args.run.now.parts c.parts.ensures.system
    c.requires.cores c.requires.parts c.args.q c.requires.is_part

-- its tasks are those of its servers
tasks : (c : After-write_tasks-count) → c.place-parent.result ≡ parent_of c.args.sys.now c.args.q
    → IsParent c.args.sys.now c.args.budgets.now c.args.run.now.cores c.args.run.now.parts
    (parent_of c.args.sys.now c.args.q)
    → sporadic_tasks (take c.write_tasks-count.result c.write_tasks-count.new.room)
    ≡ server_tasks c.args.sys.now c.args.budgets.now (parent_of c.args.sys.now c.args.q)
tasks c here parent =
    c.write_tasks-count.ensures.tasks
    ∙ (ap (node_tasks c.args.sys.now c.args.budgets.now) here ∙ parent.servers)

pub write_tasks-count-requires-clause-in_system : goal.write_tasks-count-requires-clause-in_system
write_tasks-count-requires-clause-in_system c =
    let at = (goal.at.write_tasks-count-requires-clause-in_system c).After-place-parent in
    subst (IsNode c.args.sys.now) (sym (read at)) (parent at).is

pub synchronous_jobs-requires-clause-few : goal.synchronous_jobs-requires-clause-few
synchronous_jobs-requires-clause-few c =
    let at = goal.at.synchronous_jobs-requires-clause-few c in
    let parent_is = parent at.After-place-parent in
    subst (λ (t : List SporadicTask). length (synchronous t 0 c.args.slots) < 2 ^ 32)
    (sym (tasks at.After-write_tasks-count (read at.After-place-parent) parent_is))
    (c.requires.few (parent_of c.args.sys.now c.args.q) parent_is.is)

pub node_run-requires : goal.node_run-requires
node_run-requires c =
    let at = (goal.at.node_run-requires c).After-place-parent in
    subst (HasRun c.args.run.now.cores c.args.run.now.parts) (sym (read at)) (parent at).run

pub child_slots-requires : goal.child_slots-requires
child_slots-requires c =
    let at = goal.at.child_slots-requires c in
    let sys = c.args.sys.now in let budgets = c.args.budgets.now in let n = c.args.slots in
    let node = parent_of sys c.args.q in
    let jobs : c.deref.result.now ≡ server_jobs sys budgets node n
    = c.deref.ensures.value
    ∙ (c.in_ok-jobs.ensures.exact ∙ ap (λ (t : List SporadicTask). synchronous t 0 n)
    (tasks at.After-write_tasks-count (read at.After-place-parent) (parent at.After-place-parent))) in
    let run : c.node_run.result.now ≡ run_of c.args.run.now.cores c.args.run.now.parts node
    = c.node_run.ensures ∙ ap (run_of c.args.run.now.cores c.args.run.now.parts) (read at.After-place-parent) in
    subst (λ (js : List Job). HoldsReleased js c.node_run.result.now) (sym jobs)
    (subst (HoldsReleased (server_jobs sys budgets node n)) (sym run) c.requires.parent)
