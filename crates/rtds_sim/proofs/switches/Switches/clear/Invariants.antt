use Rattle.std.proofs.Common.{◌≡◌, ℕ, ◌<◌, [], length}
use Rattle.rtds_sim.specs.inner.Lists.{list_at}
use Rattle.rtds_sim.proofs.switches.Switches.clear.Given as goal

-- the lists so far are empty
abbrev pub invariant-loop-c : goal.invariant-loop-c
invariant-loop-c l = record {
  one_each : length l.self.lists.items ≡ length l.initial.self.lists.items;
  empty : (d : ℕ) → d < l.c → list_at l.self.lists.items d ≡ [];
}
