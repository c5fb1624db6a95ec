use Rattle.std.proofs.Common.{◌≤◌}
use Rattle.release_pattern.specs.inner.Due.{IsSoonest}
use Rattle.release_pattern.proofs.jobs.soonest.Given as goal

-- the soonest so far
abbrev pub invariant-loop-place : goal.invariant-loop-place
invariant-loop-place l =
    record { so_far : IsSoonest l.moments l.from l.place l.turn; within : l.turn.place ≤ l.place }
