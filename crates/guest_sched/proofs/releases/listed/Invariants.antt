use Rattle.std.proofs.Common.{◌≡◌, ℕ, ◌<◌, length}
use Rattle.guest_sched.specs.inner.Releases.{release_of, release_at}
use Rattle.guest_sched.proofs.releases.listed.Given as goal

-- the releases of the jobs so far
abbrev pub invariant-loop-place : goal.invariant-loop-place
invariant-loop-place l =
    record {
      long : length l.releases.items ≡ l.place;
      each : (j : ℕ) → j < l.place → release_at l.releases.items j ≡ release_of l.jobs j;
    }
