use Rattle.std.proofs.Common.{◌<◌, ◌^◌, List, length, take, sym, ◌∙◌, subst}
use Rattle.std.proofs.lemmas.Result.{IfOk-weaker}
use Rattle.slot_model.specs.Task.{SporadicTask, sporadic_tasks}
use Rattle.slot_model.specs.Release.{synchronous}
use Rattle.guest_sched.specs.Spans.{slots_of}
use Rattle.tree_spans.specs.Levels.{IsServerLevel}
use Rattle.tree_spans.specs.TreeSpans.{IsServerNode}
use Rattle.tree_spans.specs.KeptNodes.{IsKeptOf}
use Rattle.tree_spans.proofs.Nodes.{server_node_of}
use Rattle.tree_spans.proofs.KeptNodes.{kept_as}
use Rattle.tree_spans.proofs.walk.server_node.Goals as goal

pub of_servers-requires-clause-servers : goal.of_servers-requires-clause-servers
of_servers-requires-clause-servers g c = record {
  sys = c.args.sys.now;
  budgets = c.args.budgets.now;
  place = c.args.place;
  same = c.write_tasks-count.ensures.tasks ∙ c.requires.servers;
}

pub of_servers-requires-clause-few : goal.of_servers-requires-clause-few
of_servers-requires-clause-few g c =
    subst (λ (T : List SporadicTask). length (synchronous T 0 c.args.slots) < 2 ^ 32)
    (sym (c.write_tasks-count.ensures.tasks ∙ c.requires.servers)) c.requires.few

pub returns : goal.returns
returns g c =
    let is_kept_of = g.K.KeptNode.is_kept_of in
    let T = sporadic_tasks (take c.write_tasks-count.result c.write_tasks-count.new.room) in
    let Made = IsServerLevel c.sched_of-sched.result T c.args.given.now c.args.slots in
    let Wanted
    = IsServerNode c.args.sys.now c.args.budgets.now c.args.slots c.args.place
    (slots_of c.args.given.now c.args.slots) in
    IfOk-weaker c.of_servers.result (λ kept. IsKeptOf is_kept_of Made kept) (λ kept. IsKeptOf is_kept_of Wanted kept)
    (kept_as is_kept_of Made Wanted
    (server_node_of c.args.sys.now c.args.budgets.now c.args.slots c.args.place c.args.given.now T
    c.sched_of-sched.result (c.write_tasks-count.ensures.tasks ∙ c.requires.servers) c.sched_of-sched.ensures.sched))
    c.of_servers.ensures
