use Rattle.std.proofs.Common.{ℕ, ◌-◌, ◌≤◌, List, Option}
use Rattle.tree_model.specs.View.{SystemView}
use Rattle.tree_model.specs.Plans.{IsPlan}
use Rattle.release_file.specs.declared.workload.Wake.{Wake as Row}
use Rattle.rtds_queues.specs.Vcpus.{IsFirstEnd}
use Rattle.rtds_sim.specs.inner.Accounts.{IsReady}
use Rattle.rtds_sim.specs.inner.Running.{IsUnderway}
use Rattle.rtds_sim.proofs.CoreRuns.{StandsAt}
use Rattle.rtds_sim.proofs.host_core.HostCore.run_to.Given as goal

-- the core stands as in its run at the slot that comes
abbrev pub invariant-loop-at : goal.invariant-loop-at
invariant-loop-at l = record {
  run : (sys : SystemView) (budgets : List ℕ) (rows : List Row) (n k : ℕ) (run : List (Option ℕ)) → IsPlan sys budgets
      → IsUnderway sys budgets rows n l.core run l.from l.to k l.initial.self
      → StandsAt sys budgets rows l.core run l.from l.to k l.at l.self l.initial.told.items l.told.items;
  ready : IsReady l.at l.self;
  first : IsFirstEnd l.self.vcpus l.end;
  since : l.from ≤ l.at;
  in_time : l.at ≤ l.to;
}

abbrev pub decreases-loop-at : goal.decreases-loop-at
decreases-loop-at l = l.to - l.at
