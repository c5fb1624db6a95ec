use Rattle.std.proofs.Common.{sym, subst}
use Rattle.slot_model.specs.Task.{sporadic_tasks}
use Rattle.server_sched.specs.inner.Serving.{AreServerTasks}
use Rattle.server_sched.proofs.ServerKept.{are_servers, server_kept}
use Rattle.server_sched.proofs.counted_tree.KeptKeptNode.of_servers.Goals as goal

pub serve_level-requires-clause-tasks : goal.serve_level-requires-clause-tasks
serve_level-requires-clause-tasks c =
    let of = c.requires.servers in
    subst AreServerTasks (sym of.same) (are_servers of.sys of.budgets of.place)

pub returns : goal.returns
returns c =
    server_kept c.args.sched (sporadic_tasks c.args.tasks.now) c.args.given.now c.args.slots c.in_ok-kept.kept
    c.in_ok-kept.ensures
