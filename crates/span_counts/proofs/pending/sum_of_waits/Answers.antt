use Rattle.std.proofs.Common.{◌+◌, ◌≤◌, length, sym, ap, arith, mul-le-mul_right, add-one}
use Rattle.slot_model.specs.Slots.{sum_below}
use Rattle.slot_model.proofs.Sums.{sum_below-zero, sum_below-suc}
use Rattle.span_counts.specs.Pending.{slots_pending}
use Rattle.span_counts.specs.inner.Waits.{wait_at}
use Rattle.span_counts.proofs.Waiting.{pending_is_wait}
use Rattle.span_counts.proofs.pending.sum_of_waits.Goals as goal

pub loop-place-init : goal.loop-place-init
loop-place-init c =
    record { counted = λ run e h. sym (sum_below-zero (slots_pending c.args.jobs.now run)); few = omega arith }

pub overflow_add-pending : goal.overflow_add-pending
overflow_add-pending c =
    let ends = c.requires.ends c.loop-place.place c.loop-place-test.true in
    record {
      fits =
          omega (
            arith,
            ends,
            c.loop-place.invariant.few,
            c.saturating_sub-pending.ensures,
            c.requires.few,
            mul-le-mul_right c.args.slots (
                let l : c.loop-place.place + 1 ≤ length c.args.jobs.now
                = omega (arith, c.loop-place-test.true) in
                l),
          );
    }

pub loop-place-preserved : goal.loop-place-preserved
loop-place-preserved c = record {
  counted = λ run e h.
      let one
      = pending_is_wait c.args.jobs.now run c.args.slots c.loop-place.place
      (wait_at c.args.waits.now c.loop-place.place) e (h.each c.loop-place.place c.loop-place-test.true) in
      omega (
        arith,
        one,
        c.saturating_sub-pending.ensures,
        c.loop-place.invariant.counted run e h,
        sum_below-suc (slots_pending c.args.jobs.now run) c.loop-place.place,
        ap (sum_below (slots_pending c.args.jobs.now run)) (add-one c.loop-place.place),
      );
  few =
      let ends = c.requires.ends c.loop-place.place c.loop-place-test.true in
      omega (arith, ends, c.loop-place.invariant.few, c.saturating_sub-pending.ensures);
}
