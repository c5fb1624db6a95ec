use Rattle.std.proofs.Common.{◌≡◌, ◌<◌, ℕ, length, List, Vec, Global, get_or, map, sym, ◌∙◌, ap, arith, add-one}
use Rattle.std.proofs.lemmas.List.{length-map}
use Rattle.slot_model.specs.declared.job.Job.{Job}
use Rattle.slot_model.specs.Slots.{sum_below}
use Rattle.slot_model.proofs.Sums.{sum_below-zero, sum_below-suc}
use Rattle.guest_sched.specs.Spans.{run_of}
use Rattle.span_counts.specs.Pending.{pairs_pending}
use Rattle.tree_model.specs.Releases.{jobs_at}
use Rattle.tree_spans.specs.NodeView.{NodeView}
use Rattle.tree_spans.specs.TreeSpans.{node_at}
use Rattle.bulk_run.proofs.Counting.{AreFound, found, run_found, pending_found}
use Rattle.bulk_run.proofs.counts.pending_of.Goals as goal
use Rattle.bulk_run.proofs.counts.pending_of.Goals.{After-deref}

abbrev pending_at : List (Vec Job Global) → List NodeView → ℕ → ℕ
pending_at jobs nodes q =
    pairs_pending (jobs_at (map (λ (list : Vec Job Global). list.items) jobs) q) (run_of (node_at nodes q).spans)

pub loop-place-init : goal.loop-place-init
loop-place-init c =
    record { counted = sym (sum_below-zero (pending_at c.args.jobs.now c.args.nodes.now)); few = omega arith }

-- a place is that of a list
in_lists : (c : After-deref)
    → c.loop-place.place < length (map (λ (list : Vec Job Global). list.items) c.args.jobs.now)
in_lists c =
    omega (arith, c.loop-place-test.true, length-map c.args.jobs.now (λ (list : Vec Job Global). list.items))

-- what is read of the guest there
here : (c : After-deref) (node : NodeView) → node ≡ get_or c.args.nodes.now c.loop-place.place node
    → AreFound (map (λ (list : Vec Job Global). list.items) c.args.jobs.now) c.args.nodes.now c.loop-place.place
    c.deref.result.now node.spans
here c node is =
    found c.args.jobs.now c.args.nodes.now c.loop-place.place c.index-jobs-place.result node c.deref.result.now
    (omega (arith, c.loop-place-test.true))
    (omega (arith, in_lists c, c.requires.runs.one_each)) c.index-jobs-place.is c.deref.ensures.value is

pub pending_in-requires : goal.pending_in-requires
pending_in-requires c =
    let at = (goal.at.pending_in-requires c).After-deref in
    record {
      run =
          run_found (map (λ (list : Vec Job Global). list.items) c.args.jobs.now) c.args.nodes.now c.loop-place.place
          c.deref.result.now c.index-nodes-place.result.spans
          (here at c.index-nodes-place.result c.index-nodes-place.is) c.requires.runs
          (in_lists at);
    }

pub overflow_add-pending : goal.overflow_add-pending
overflow_add-pending c =
    record {
      fits =
          omega
          (arith, c.in_ok-pending.ensures.few, c.loop-place.invariant.few, c.requires.few, c.loop-place-test.true);
    }

pub loop-place-preserved : goal.loop-place-preserved
loop-place-preserved c =
    let at = (goal.at.loop-place-preserved c).After-deref in
    let one
    = c.in_ok-pending.ensures.number
    ∙ pending_found (map (λ (list : Vec Job Global). list.items) c.args.jobs.now) c.args.nodes.now
    c.loop-place.place c.deref.result.now c.index-nodes-place.result.spans
    (here at c.index-nodes-place.result c.index-nodes-place.is) in
    record {
      counted =
          omega (
            arith,
            one,
            c.loop-place.invariant.counted,
            sum_below-suc (pending_at c.args.jobs.now c.args.nodes.now) c.loop-place.place,
            ap (sum_below (pending_at c.args.jobs.now c.args.nodes.now)) (add-one c.loop-place.place),
          );
      few = omega (arith, c.in_ok-pending.ensures.few, c.loop-place.invariant.few);
    }

pub returns-clause-few : goal.returns-clause-few
returns-clause-few c = omega (arith, c.loop-place.invariant.few, c.loop-place.auto.place-end)
