use Rattle.std.proofs.Common.{◌≡◌, ℕ, ◌<◌, length}
use Rattle.rtds_sim.specs.inner.Accounts.{new_core, core_at}
use Rattle.rtds_sim.proofs.host.Host.new.Given as goal

-- the cores so far
abbrev pub invariant-loop-c : goal.invariant-loop-c
invariant-loop-c l = record {
  one_each : length l.cores.items ≡ l.c;
  cores : (d : ℕ) → d < l.c → core_at l.cores.items d ≡ new_core l.sys l.plan d;
}
