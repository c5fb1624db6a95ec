use Rattle.std.proofs.Common.{◌+◌, ◌-◌, ◌^◌, ◌≤◌, arith}
use Rattle.slot_model.proofs.Runs.{count_below-le}
use Rattle.guest_sched.specs.Spans.{is_given, window_at}
use Rattle.span_counts.proofs.Counting.{window_end, window_next, no_window, one_window_more, all_windows}
use Rattle.span_counts.proofs.counts.slots_given.Goals as goal

pub loop-window-init : goal.loop-window-init
loop-window-init c = no_window c.args.windows.now

pub overflow_add-given : goal.overflow_add-given
overflow_add-given c =
    let windows = c.args.windows.now in let i = c.loop-window.window-index in
    let more
    = one_window_more windows (2 ^ 64 - 1) i c.loop-window.given c.requires c.loop-window-test.true
    c.loop-window.invariant in
    let low = count_below-le (is_given windows) (window_end windows (i + 1)) in
    let end : (window_at windows i).until ≤ 2 ^ 64 - 1 = c.requires.in_slots i c.loop-window-test.true in
    record { fits = omega (arith, more, low, window_next windows i, end) }

pub loop-window-preserved : goal.loop-window-preserved
loop-window-preserved c =
    one_window_more c.args.windows.now (2 ^ 64 - 1) c.loop-window.window-index c.loop-window.given c.requires
    c.loop-window-test.true c.loop-window.invariant

pub returns : goal.returns
returns c n are =
    all_windows c.args.windows.now n c.loop-window.window-index c.loop-window.given are
    (omega (arith, c.loop-window-test.false)) c.loop-window.invariant
