use Rattle.std.proofs.Common.{List, subst, sym}
use Rattle.slot_model.specs.Miss.{HoldsReleased}
use Rattle.guest_sched.specs.declared.spans.Span.{Span}
use Rattle.guest_sched.specs.Spans.{run_of}
use Rattle.bulk_run.proofs.counts.pending_in.Goals as goal

pub count_pending-requires-clause-released : goal.count_pending-requires-clause-released
count_pending-requires-clause-released c =
    subst (λ (spans : List Span). HoldsReleased c.args.jobs.now (run_of spans)) (sym c.spans.ensures)
    c.requires.run.released
