use Rattle.std.proofs.Common.{ℕ, ◌<◌}
use Rattle.slot_model.specs.Task.{sporadic_tasks}
use Rattle.slot_model.specs.Order.{ranks_above}
use Rattle.slot_model.specs.Bound.{IsHit}
use Rattle.least_budget.proofs.level_test.test_by_rank.Given as goal

abbrev pub invariant-loop-i : goal.invariant-loop-i
invariant-loop-i g l =
    (k : ℕ) → k < l.i
    → (t : ℕ) × IsHit (ranks_above l.level.sched (sporadic_tasks l.level.tasks.now)) (sporadic_tasks l.level.tasks.now)
    (g.S.Supply.bound l.s) k t
