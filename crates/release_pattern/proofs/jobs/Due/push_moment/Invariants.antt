use Rattle.std.proofs.Common.{◌≡◌, ◌-◌, ℕ, cond, eqb, length}
use Rattle.slot_model.specs.Task.{sporadic_tasks}
use Rattle.release_pattern.proofs.Dues.{MomentTurn}
use Rattle.release_pattern.proofs.jobs.Due.push_moment.Given as goal

abbrev pub invariant-loop-turn : goal.invariant-loop-turn
invariant-loop-turn l = record {
  so_far : MomentTurn (sporadic_tasks l.tasks) l.start l.after l.fn.jobs.items l.jobs.items
      l.self.tasks.items l.self.groups.items l.self.offsets.items l.turn;
  as_many : length l.self.groups.items ≡ length l.fn.self.groups.items;
}

abbrev pub decreases-loop-turn : goal.decreases-loop-turn
decreases-loop-turn l = cond {A = ℕ} (eqb l.turn.moment l.after) (l.groups - l.turn.place) 0
