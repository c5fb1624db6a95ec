use Rattle.std.proofs.Common.{◌≡◌, ℕ, ◌<◌, ◌≤◌, length}
use Rattle.slot_model.specs.Task.{sporadic_tasks}
use Rattle.guest_sched.specs.Spans.{slots_of, window_at}
use Rattle.server_sched.specs.inner.Serving.{IsUnderway}
use Rattle.server_sched.proofs.served.serve_level.Given as goal

-- the first run over the first so many windows
abbrev pub invariant-loop-at : goal.invariant-loop-at
invariant-loop-at l = record {
  state : IsUnderway l.fn.sched (sporadic_tasks l.tasks) (slots_of l.given l.slots) l.level;
  slots : l.level.slots ≡ l.slots;
  over : (i : ℕ) → i < l.at → (window_at l.given i).until ≤ l.level.time;
  begun : l.at < length l.given → l.level.time ≤ (window_at l.given l.at).from;
}
