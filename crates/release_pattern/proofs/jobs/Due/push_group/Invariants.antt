use Rattle.std.proofs.Common.{◌≡◌, ◌-◌, ℕ, cond, eqb}
use Rattle.slot_model.specs.Task.{sporadic_tasks}
use Rattle.release_pattern.proofs.Dues.{GroupTurn}
use Rattle.release_pattern.proofs.jobs.Due.push_group.Given as goal

abbrev pub invariant-loop-turn : goal.invariant-loop-turn
invariant-loop-turn l = record {
  so_far : GroupTurn (sporadic_tasks l.tasks) l.start l.after l.from l.until l.fn.self.tasks.items
      l.self.tasks.items l.fn.jobs.items l.jobs.items l.turn;
  groups : l.self.groups ≡ l.fn.self.groups;
  offsets : l.self.offsets ≡ l.fn.self.offsets;
}

abbrev pub decreases-loop-turn : goal.decreases-loop-turn
decreases-loop-turn l = cond {A = ℕ} (eqb l.turn.moment l.after) (l.until - l.turn.place) 0
