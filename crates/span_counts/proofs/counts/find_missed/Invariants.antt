use Rattle.std.proofs.Common.{◌≡◌, ℕ, ◌≤◌, List, Option, length}
use Rattle.slot_model.specs.Slots.{count_below}
use Rattle.slot_model.specs.Task.{sporadic_tasks}
use Rattle.slot_model.specs.Miss.{is_missed}
use Rattle.slot_model.proofs.FirstMiss.{FirstMissTo}
use Rattle.span_counts.specs.inner.Services.{AreServices}
use Rattle.span_counts.proofs.counts.find_missed.Given as goal

abbrev pub invariant-loop-place : goal.invariant-loop-place
invariant-loop-place l = record {
  counted : (run : List (Option ℕ)) → length run ≡ l.end → AreServices (sporadic_tasks l.tasks) l.jobs run l.got
      → l.count ≡ count_below (is_missed (sporadic_tasks l.tasks) l.jobs run) l.place;
  few : l.count ≤ l.place;
  first : (run : List (Option ℕ)) → length run ≡ l.end → AreServices (sporadic_tasks l.tasks) l.jobs run l.got
      → FirstMissTo (sporadic_tasks l.tasks) l.jobs run l.place l.first;
}
