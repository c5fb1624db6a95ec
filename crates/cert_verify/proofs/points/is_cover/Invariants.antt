use Rattle.std.proofs.Common.{ℕ, ◌<◌}
use Rattle.slot_model.specs.Task.{sporadic_tasks}
use Rattle.cert_verify.proofs.Walked.{Covers}
use Rattle.cert_verify.proofs.points.is_cover.Given as goal

abbrev pub invariant-loop-j : goal.invariant-loop-j
invariant-loop-j g l =
    (k : ℕ) → k < l.j → Covers (sporadic_tasks l.level.tasks.now) (g.S.Supply.bound l.s) l.points k
