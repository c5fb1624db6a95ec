use Rattle.std.proofs.Common.{◌≡◌, List, take, sym, ◌∙◌, ap, subst}
use Rattle.slot_model.specs.declared.job.Job.{Job}
use Rattle.slot_model.specs.Task.{SporadicTask, sporadic_tasks}
use Rattle.slot_model.specs.Release.{synchronous}
use Rattle.slot_model.specs.Miss.{HoldsReleased}
use Rattle.tree_model.specs.Tree.{server_tasks, server_jobs}
use Rattle.server_sched.proofs.slot_counts.server_counts.Goals as goal

pub count_slots-requires-clause-released : goal.count_slots-requires-clause-released
count_slots-requires-clause-released c =
    let sys = c.args.sys.now in let budgets = c.args.budgets.now in let place = c.args.place in
    let T = server_tasks sys budgets place in
    let same : sporadic_tasks (take c.write_tasks-count.result c.write_tasks-count.new.room) ≡ T
    = c.write_tasks-count.ensures.tasks ∙ c.requires.servers in
    let jobs : c.deref.result.now ≡ server_jobs sys budgets place c.args.slots
    = c.deref.ensures.value
    ∙ (c.in_ok-jobs.ensures.exact ∙ ap (λ (t : List SporadicTask). synchronous t 0 c.args.slots) same) in
    subst (λ (js : List Job). HoldsReleased js c.args.run.now) (sym jobs) c.requires.holds.released
