use Rattle.std.proofs.Common.{◌-◌}
use Rattle.slot_model.specs.Task.{sporadic_tasks}
use Rattle.server_sched.proofs.Underway.{UnderwayTo}
use Rattle.server_sched.proofs.level.Level.pass_to.Given as goal

-- the first run so far
abbrev pub invariant-loop-self : goal.invariant-loop-self
invariant-loop-self l =
    UnderwayTo l.fn.sched (sporadic_tasks l.tasks) l.given l.initial.self.slots l.initial.self.time l.until l.self

abbrev pub decreases-loop-self : goal.decreases-loop-self
decreases-loop-self l = l.until - l.self.come.next
