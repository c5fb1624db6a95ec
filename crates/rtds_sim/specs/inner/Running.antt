-- A core that runs by itself, from a slot whose rows are taken up to one before which no row comes.
use Rattle.std.specs.Prelude.{◌≡◌, ℕ, suc, ◌-◌, ◌<◌, ◌≤◌, List, ◌++◌, length, Option}
use Rattle.tree_model.specs.View.{SystemView}
use Rattle.trace_file.specs.declared.event.Event.{Event}
use Rattle.release_file.specs.declared.workload.Wake.{Wake as Row}
use Rattle.release_file.specs.Workload.{row_at}
use Rattle.rtds_sim.specs.declared.host_core.HostCore.{HostCore}
use Rattle.rtds_sim.specs.inner.Accounts.{holder_of, AreOn}
use Rattle.rtds_trace.specs.Printed.{AreBefore, holder_before, holder_left, switch_on}
use Rattle.rtds_model.specs.Rtds.{CoreRun}
use Rattle.rtds_sim.specs.inner.Telling.{told_on}

-- no row behind the first k comes before a slot
abbrev pub RowsFrom : List Row → ℕ → ℕ → Type 0
RowsFrom rows k to = (i : ℕ) → k ≤ i → i < length rows → to ≤ (row_at rows i).at

-- as slot x comes the core stands as in its run, after the first k rows
pub record Stands (sys : SystemView) (budgets : List ℕ) (rows : List Row) (c : ℕ)
    (run : List (Option ℕ)) (x k : ℕ) (core : HostCore) : Type 0 where
  pub are : AreOn sys budgets rows c run x k core.vcpus
  pub holder_is : holder_of core ≡ holder_before run x

-- at slot x core c stands as in its run: the k rows up to x are taken, and no other comes before
-- slot `to`; its VCPUs that block at x have given it up
pub record IsUnderway (sys : SystemView) (budgets : List ℕ) (rows : List Row) (n c : ℕ)
    (run : List (Option ℕ)) (x to k : ℕ) (core : HostCore) : Type 0 where
  pub is_run : CoreRun sys budgets rows n c run
  pub fits : to ≤ n
  pub taken : AreBefore rows k (suc x)
  pub rows_later : RowsFrom rows k to
  pub are : AreOn sys budgets rows c run x k core.vcpus
  pub holder_is : holder_of core ≡ holder_left rows run x

-- and at slot `to`, once it has told its switches at the slots from x on
pub record HasRun (sys : SystemView) (budgets : List ℕ) (rows : List Row) (c : ℕ)
    (run : List (Option ℕ)) (x to k : ℕ) (core : HostCore) (before told : List Event) :
    Type 0 where
  pub stands : Stands sys budgets rows c run to k core
  pub told_is : told ≡ before ++ told_on (λ y. switch_on rows run y c) x (to - x)
