use Rattle.std.proofs.Common.{◌≡◌, ℕ, [], List, length, replicate, arith, ap, sym, ◌∙◌, refl}
use Rattle.std.proofs.lemmas.List.{length-map}
use Rattle.slot_model.specs.Task.{sporadic_task, sporadic_tasks}
use Rattle.guest_sched.specs.Spans.{Window}
use Rattle.server_sched.specs.inner.Serving.{no_server}
use Rattle.server_sched.proofs.Underway.{begun}
use Rattle.server_sched.proofs.level.Level.new.Goals as goal

pub returns-clause-state : goal.returns-clause-state
returns-clause-state c = λ sched given.
    let T = sporadic_tasks c.args.tasks.now in
    let long : length T ≡ length c.args.tasks.now = length-map c.args.tasks.now sporadic_task in
    begun sched T given _ refl refl
    (c.in_ok-servers.ensures.items_if_clones_equal (λ y e. e) ∙ ap (λ (n : ℕ). replicate n no_server) (sym long))
    (c.loop-task.invariant
    ∙ ap (λ (n : ℕ). replicate {A = List Window} n []) (
    let e : c.loop-task.task-index ≡ length T
    = omega (arith, c.loop-task-test.false, c.loop-task.auto.task-index-end, long) in
    e))
    refl refl
