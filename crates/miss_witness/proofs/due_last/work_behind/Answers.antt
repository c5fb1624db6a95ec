use Rattle.std.proofs.Common.{ℕ, suc, ◌≡◌, ◌+◌, ◌∙◌, ap, arith, length}
use Rattle.slot_model.specs.Slots.{sum_below}
use Rattle.slot_model.specs.Task.{sporadic_tasks}
use Rattle.slot_model.proofs.Sums.{sum_below-zero, sum_below-suc}
use Rattle.fp_request.proofs.Parts.{sporadic_tasks-length}
use Rattle.miss_witness.specs.inner.DueLast.{part_from}
use Rattle.miss_witness.proofs.due_last.work_behind.Goals as goal

pub loop-k-init : goal.loop-k-init
loop-k-init c = record {
  sum = omega (arith, sum_below-zero (part_from (sporadic_tasks c.args.tasks.now) c.args.span c.args.i));
  small = omega arith;
}

pub loop-k-preserved : goal.loop-k-preserved
loop-k-preserved c =
    let part : ℕ → ℕ = part_from (sporadic_tasks c.args.tasks.now) c.args.span c.args.i in
    record {
      sum =
          omega (
            arith,
            c.loop-k.invariant.sum,
            c.part_behind-total.ensures.exact,
            sum_below-suc part c.loop-k.k,
            ap (sum_below part) (let e : c.loop-k.k + 1 ≡ suc c.loop-k.k = omega arith in e),
          );
      small = omega (arith, c.loop-k.invariant.small, c.part_behind-total.ensures.small);
    }

pub returns : goal.returns
returns c =
    let part : ℕ → ℕ = part_from (sporadic_tasks c.args.tasks.now) c.args.span c.args.i in
    c.loop-k.invariant.sum
    ∙ ap (sum_below part)
    (let e : c.loop-k.k ≡ length (sporadic_tasks c.args.tasks.now)
    = omega (arith, sporadic_tasks-length c.args.tasks.now) in e)
