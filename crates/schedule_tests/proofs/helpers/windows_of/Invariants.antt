use Rattle.std.proofs.Common.{◌≤◌}
use Rattle.guest_sched.specs.Spans.{AreWindows}
use Rattle.schedule_tests.proofs.helpers.windows_of.Given as goal

-- the windows so far, which end by here
abbrev pub invariant-loop-row : goal.invariant-loop-row
invariant-loop-row g l = record {
  windows : AreWindows l.windows.items l.end;
  within : l.end ≤ l.slots;
}
