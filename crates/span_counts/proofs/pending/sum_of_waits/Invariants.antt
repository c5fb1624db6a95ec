use Rattle.std.proofs.Common.{◌≡◌, ℕ, ◌*◌, ◌≤◌, List, Option, length}
use Rattle.slot_model.specs.Slots.{sum_below}
use Rattle.span_counts.specs.Pending.{slots_pending}
use Rattle.span_counts.specs.inner.Waits.{AreWaitsTo}
use Rattle.span_counts.proofs.pending.sum_of_waits.Given as goal

abbrev pub invariant-loop-place : goal.invariant-loop-place
invariant-loop-place l =
    record {
      counted : (run : List (Option ℕ)) → length run ≡ l.slots → AreWaitsTo l.jobs run l.slots l.slots l.waits
          → l.pending ≡ sum_below (slots_pending l.jobs run) l.place;
      few : l.pending ≤ l.place * l.slots;
    }
