use Rattle.std.proofs.Common.{ℕ, ◌+◌, ◌≤◌, List, Option}
use Rattle.slot_model.specs.declared.sched.Sched.{Sched}
use Rattle.slot_model.specs.Task.{sporadic_tasks}
use Rattle.slot_model.specs.Release.{synchronous}
use Rattle.server_sched.specs.inner.Serving.{IsChosen, AtRest, Tallies, is_late}
use Rattle.server_sched.proofs.tally.close.Given as goal

-- the late ones of the first so many servers
abbrev pub invariant-loop-i : goal.invariant-loop-i
invariant-loop-i l = record {
  tallied : (sched : Sched) (n : ℕ) (run : List (Option ℕ)) (released : ℕ) → l.moment ≤ n → IsChosen l.servers l.fn.best
      → AtRest sched (sporadic_tasks l.tasks) n run l.moment released l.moment l.servers
      → Tallies (sporadic_tasks l.tasks) (synchronous (sporadic_tasks l.tasks) 0 n) run
      (is_late (sporadic_tasks l.tasks) (synchronous (sporadic_tasks l.tasks) 0 n) run l.moment 0)
      l.initial.tally.missed l.initial.tally.first
      → Tallies (sporadic_tasks l.tasks) (synchronous (sporadic_tasks l.tasks) 0 n) run
      (is_late (sporadic_tasks l.tasks) (synchronous (sporadic_tasks l.tasks) 0 n) run l.moment l.i) l.tally.missed
      l.tally.first;
  few : l.tally.missed ≤ l.initial.tally.missed + l.i;
}
