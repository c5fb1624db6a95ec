use Rattle.std.proofs.Common.{◌≡◌, ℕ, ◌<◌, length, get_or}
use Rattle.rtds_sim.specs.inner.Lists.{list_at}
use Rattle.rtds_sim.specs.inner.Soonest.{next_moment}
use Rattle.rtds_sim.proofs.switches.set_first_moments.Given as goal

-- the moments of the cores so far
abbrev pub invariant-loop-c : goal.invariant-loop-c
invariant-loop-c l = record {
  room : length l.moments ≡ length l.initial.moments;
  so_far : (d : ℕ) → d < l.c → get_or l.moments d 0 ≡ next_moment (list_at l.lists d) 0;
}
