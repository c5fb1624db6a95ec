use Rattle.std.proofs.Common.{◌≡◌, List, take, sym, ◌∙◌, subst}
use Rattle.std.proofs.lemmas.Result.{IfOk-weaker}
use Rattle.slot_model.specs.Task.{SporadicTask, sporadic_tasks}
use Rattle.slot_model.specs.Release.{LegalRelease}
use Rattle.guest_sched.specs.Spans.{slots_of}
use Rattle.tree_model.specs.System.{own_tasks_at}
use Rattle.tree_model.proofs.NodeTasks.{leaf_tasks}
use Rattle.tree_spans.specs.Levels.{IsGuestLevel}
use Rattle.tree_spans.specs.TreeSpans.{IsLeafNode}
use Rattle.tree_spans.specs.KeptNodes.{IsKeptOf}
use Rattle.tree_spans.proofs.Nodes.{leaf_node_of}
use Rattle.tree_spans.proofs.KeptNodes.{kept_as}
use Rattle.tree_spans.proofs.walk.leaf_node.Goals as goal

pub of_guests-requires-clause-legal : goal.of_guests-requires-clause-legal
of_guests-requires-clause-legal g c =
    subst (λ (T : List SporadicTask). LegalRelease T c.args.jobs.now)
    (sym (c.write_tasks-count.ensures.tasks ∙ leaf_tasks c.args.sys.now c.args.budgets.now c.args.q c.requires.leaf))
    c.requires.legal

pub returns : goal.returns
returns g c =
    let is_kept_of = g.K.KeptNode.is_kept_of in
    let sys = c.args.sys.now in let q = c.args.q in
    let T : List SporadicTask = sporadic_tasks (take c.write_tasks-count.result c.write_tasks-count.new.room) in
    let same : T ≡ own_tasks_at sys q
    = c.write_tasks-count.ensures.tasks ∙ leaf_tasks sys c.args.budgets.now q c.requires.leaf in
    let Made = IsGuestLevel c.sched_of-sched.result T c.args.jobs.now c.args.given.now c.args.slots in
    let Wanted = IsLeafNode sys c.args.slots q c.args.jobs.now (slots_of c.args.given.now c.args.slots) in
    IfOk-weaker c.of_guests.result (λ kept. IsKeptOf is_kept_of Made kept) (λ kept. IsKeptOf is_kept_of Wanted kept)
    (kept_as is_kept_of Made Wanted
    (leaf_node_of sys c.args.slots q c.args.given.now T c.args.jobs.now c.sched_of-sched.result same
    c.sched_of-sched.ensures.sched))
    c.of_guests.ensures
