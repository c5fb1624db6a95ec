-- What holds of the trace of a run.
use Rattle.std.proofs.Common.{◌≡◌, ℕ, ◌≤◌, List, Option, sym, ◌∙◌, ap, subst, arith}
use Rattle.slot_model.specs.declared.task.TheConstants.{LIMIT}
use Rattle.tree_model.specs.View.{SystemView}
use Rattle.tree_model.specs.System.{IsSystem}
use Rattle.tree_model.specs.Plans.{IsPlan}
use Rattle.trace_file.specs.declared.event.Event.{Event}
use Rattle.trace_file.specs.Periods.{Satisfied}
use Rattle.trace_file.specs.Rules.{Kept}
use Rattle.release_file.specs.declared.workload.Wake.{Wake}
use Rattle.release_file.specs.Workload.{IsWorkload}
use Rattle.rtds_model.specs.Rtds.{RtdsRun}
use Rattle.rtds_model.specs.Giving.{NoneOver}
use Rattle.rtds_trace.specs.Printed.{printed, IsRtdsTrace}
use Rattle.rtds_trace.specs.RunTrace.{IsRunTrace}
use Rattle.rtds_model.proofs.Runs.{rtds_unique}
use Rattle.rtds_trace.proofs.Keeping.{printed_keeps}
use Rattle.rtds_trace.proofs.Traced.{satisfied, none_over}

-- there is one run, so a trace is that of each
pub trace_of : (sys : SystemView) (budgets : List ℕ) (rows : List Wake) (n : ℕ) (events : List Event)
    → IsRtdsTrace sys budgets rows n events → (runs : List (List (Option ℕ))) → RtdsRun sys budgets rows n runs
    → events ≡ printed sys rows runs n
trace_of sys budgets rows n events trace runs is =
    trace.2
    ∙ ap (λ (rs : List (List (Option ℕ))). printed sys rows rs n)
    (rtds_unique sys budgets rows n trace.0 runs trace.1 is)

pub run_trace : (sys : SystemView) → IsSystem sys → (budgets : List ℕ) → IsPlan sys budgets → (rows : List Wake)
    → IsWorkload sys rows → (n : ℕ) → n ≤ 1000000 → (events : List Event) → IsRtdsTrace sys budgets rows n events
    → IsRunTrace sys budgets rows n events
run_trace sys system budgets plan rows workload n few events trace =
    let fits : n ≤ LIMIT = omega (arith, few) in
    record {
      trace = trace;
      only = trace_of sys budgets rows n events trace;
      kept =
          subst (Kept sys) (sym trace.2) (printed_keeps sys system rows workload budgets n trace.0 trace.1 fits);
      none_over =
          subst (NoneOver sys budgets) (sym trace.2)
          (none_over sys system budgets plan rows workload n trace.0 trace.1 fits);
      satisfied =
          λ served. subst (Satisfied sys budgets) (sym trace.2)
          (satisfied sys system budgets plan rows workload n trace.0 trace.1 fits served);
    }
