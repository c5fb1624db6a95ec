use Rattle.std.proofs.Common.{◌≡◌, ℕ, ◌≤◌, ◌<◌, List, [], length, Option}
use Rattle.tree_model.specs.View.{SystemView}
use Rattle.tree_model.specs.Plans.{IsPlan}
use Rattle.release_file.specs.declared.workload.Wake.{Wake as Row}
use Rattle.rtds_sim.specs.inner.Accounts.{core_at, IsReady}
use Rattle.rtds_sim.specs.inner.Lists.{list_at}
use Rattle.rtds_sim.specs.inner.Running.{IsUnderway, HasRun}
use Rattle.rtds_sim.proofs.host.Host.run_on.Given as goal

-- the cores so far have run, and the others are as they were
abbrev pub invariant-loop-c : goal.invariant-loop-c
invariant-loop-c l = record {
  run : (sys : SystemView) (budgets : List ℕ) (rows : List Row) (n k d : ℕ) (run : List (Option ℕ))
      → IsPlan sys budgets → d < l.c
      → IsUnderway sys budgets rows n d run l.initial.self.time l.to k (core_at l.initial.self.cores.items d)
      → HasRun sys budgets rows d run l.initial.self.time l.to k (core_at l.self.cores.items d) []
      (list_at l.switches.lists.items d);
  ready : (d : ℕ) → d < l.c → IsReady l.to (core_at l.self.cores.items d);
  same : (d : ℕ) → l.c ≤ d → core_at l.self.cores.items d ≡ core_at l.initial.self.cores.items d;
  one_each : length l.self.cores.items ≡ length l.initial.self.cores.items;
  lists : length l.switches.lists.items ≡ length l.initial.switches.lists.items;
  empty : (d : ℕ) → l.c ≤ d → list_at l.switches.lists.items d ≡ [];
  time : l.self.time ≡ l.initial.self.time;
  taken : l.self.taken ≡ l.initial.self.taken;
}
