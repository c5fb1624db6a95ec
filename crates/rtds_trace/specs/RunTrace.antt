-- The trace of a run, and what there is to say of it.
use Rattle.std.specs.Prelude.{◌≡◌, ℕ, List, Option}
use Rattle.tree_model.specs.View.{SystemView}
use Rattle.trace_file.specs.declared.event.Event.{Event}
use Rattle.trace_file.specs.Periods.{Satisfied}
use Rattle.trace_file.specs.Rules.{Kept}
use Rattle.release_file.specs.declared.workload.Wake.{Wake}
use Rattle.rtds_model.specs.Rtds.{RtdsRun}
use Rattle.rtds_model.specs.Giving.{AlwaysServed, NoneOver}
use Rattle.rtds_trace.specs.Printed.{printed, IsRtdsTrace}

-- it is the trace of the run of the workload, of which there is one, and keeps the rules of a
-- trace; no period in it is over, and none is short where on each core the servers pass the test
-- and the VCPUs never block
pub record IsRunTrace (sys : SystemView) (budgets : List ℕ) (rows : List Wake) (n : ℕ)
    (events : List Event) : Type 0 where
  pub trace : IsRtdsTrace sys budgets rows n events
  pub only : (runs : List (List (Option ℕ))) → RtdsRun sys budgets rows n runs →
      events ≡ printed sys rows runs n
  pub kept : Kept sys events
  pub none_over : NoneOver sys budgets events
  pub satisfied : AlwaysServed sys budgets rows → Satisfied sys budgets events
