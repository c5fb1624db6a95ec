use Rattle.std.proofs.Common.{◌≡◌, ◌*◌, ◌^◌, ◌≤◌, Vec, Global, map}
use Rattle.slot_model.specs.declared.job.Job.{Job}
use Rattle.slot_model.specs.Slots.{sum_below}
use Rattle.guest_sched.specs.Spans.{run_of}
use Rattle.span_counts.specs.Pending.{pairs_pending}
use Rattle.tree_model.specs.Releases.{jobs_at}
use Rattle.tree_spans.specs.TreeSpans.{node_at}
use Rattle.bulk_run.proofs.counts.pending_of.Given as goal

abbrev pub invariant-loop-place : goal.invariant-loop-place
invariant-loop-place l =
    record {
      counted : l.pending
          ≡ sum_below (λ q. pairs_pending (jobs_at (map (λ (list : Vec Job Global). list.items) l.jobs) q)
          (run_of (node_at l.nodes q).spans)) l.place;
      few : l.pending ≤ l.place * 2 ^ 49;
    }
