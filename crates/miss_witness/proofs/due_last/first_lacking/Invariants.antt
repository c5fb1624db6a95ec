use Rattle.std.proofs.Common.{ℕ, ◌≤◌}
use Rattle.slot_model.specs.Task.{sporadic_tasks}
use Rattle.miss_witness.specs.inner.DueLast.{LacksFirst}
use Rattle.miss_witness.proofs.due_last.first_lacking.Given as goal

abbrev pub invariant-loop-i : goal.invariant-loop-i
invariant-loop-i l = (k : ℕ) → l.i ≤ k → LacksFirst (sporadic_tasks l.tasks) l.span l.lack k → ⊥
