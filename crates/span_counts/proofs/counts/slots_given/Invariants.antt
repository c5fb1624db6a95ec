use Rattle.std.proofs.Common.{◌≡◌}
use Rattle.slot_model.specs.Slots.{count_below}
use Rattle.guest_sched.specs.Spans.{is_given}
use Rattle.span_counts.proofs.Counting.{window_end}
use Rattle.span_counts.proofs.counts.slots_given.Given as goal

abbrev pub invariant-loop-window : goal.invariant-loop-window
invariant-loop-window l = l.given ≡ count_below (is_given l.windows) (window_end l.windows l.window-index)
