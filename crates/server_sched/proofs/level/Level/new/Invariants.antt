use Rattle.std.proofs.Common.{◌≡◌, [], map, replicate}
use Rattle.server_sched.proofs.level.Level.new.Given as goal

abbrev pub invariant-loop-task : goal.invariant-loop-task
invariant-loop-task l = map (λ s. s.items) l.shares.items ≡ replicate l.task-index []
