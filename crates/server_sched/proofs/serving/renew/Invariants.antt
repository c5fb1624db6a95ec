use Rattle.std.proofs.Common.{◌≡◌, ℕ, ◌+◌, ◌<◌, ◌≤◌, List, Option, length}
use Rattle.slot_model.specs.Task.{sporadic_tasks}
use Rattle.slot_model.specs.Release.{synchronous}
use Rattle.slot_model.specs.Miss.{HoldsReleased}
use Rattle.server_sched.specs.inner.Serving.{server_at, AtMoment}
use Rattle.server_sched.proofs.serving.renew.Given as goal

-- the first servers have released what they release now
abbrev pub invariant-loop-i : goal.invariant-loop-i
invariant-loop-i l = record {
  released : (n : ℕ) (run : List (Option ℕ)) → l.moment < n
      → HoldsReleased (synchronous (sporadic_tasks l.tasks) 0 n) run
      → AtMoment l.fn.sched (sporadic_tasks l.tasks) (synchronous (sporadic_tasks l.tasks) 0 n) run l.moment 0
      l.fn.released l.initial.servers
      → (AtMoment l.fn.sched (sporadic_tasks l.tasks) (synchronous (sporadic_tasks l.tasks) 0 n) run l.moment l.i
      l.come.released l.servers) × (l.moment < l.come.next);
  least : (k : ℕ) → k < l.i → l.come.next ≤ (server_at l.servers k).next;
  few : l.come.released ≤ l.fn.released + l.i;
  long : length l.servers ≡ length l.tasks;
}
