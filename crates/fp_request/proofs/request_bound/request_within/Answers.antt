use Rattle.std.proofs.Common.{ℕ, suc, ◌≡◌, ◌+◌, ap, arith, get_or}
use Rattle.slot_model.specs.declared.task.Task.{Task}
use Rattle.slot_model.specs.Slots.{sum_below}
use Rattle.slot_model.specs.Task.{SporadicTask, sporadic_tasks}
use Rattle.slot_model.specs.Order.{ranks_above}
use Rattle.slot_model.proofs.Sums.{sum_below-zero, sum_below-suc}
use Rattle.fp_request.specs.Parts.{part_of}
use Rattle.fp_request.proofs.Parts.{task_at-is}
use Rattle.fp_request.proofs.request_bound.request_within.Goals as goal

pub loop-k-init : goal.loop-k-init
loop-k-init c =
    let own : Task = get_or c.args.tasks.now c.args.i c.index-tasks-i.result in
    record {
      sum =
          omega (
            arith,
            sum_below-zero (part_of (ranks_above c.args.sched (sporadic_tasks c.args.tasks.now))
                (sporadic_tasks c.args.tasks.now) c.args.i c.args.t),
            ap (λ (z : SporadicTask). z.work)
                (task_at-is c.args.tasks.now c.args.i c.index-tasks-i.result c.requires.i_named),
          );
      small = omega (arith, own.in_deadline, own.in_period, own.in_limit);
    }

pub loop-k-preserved : goal.loop-k-preserved
loop-k-preserved c =
    let part : ℕ → ℕ
    = part_of (ranks_above c.args.sched (sporadic_tasks c.args.tasks.now)) (sporadic_tasks c.args.tasks.now)
    c.args.i c.args.t in
    record {
      sum =
          omega (
            arith,
            c.loop-k.invariant.sum,
            c.part_within.ensures.exact,
            sum_below-suc part c.loop-k.k,
            ap (sum_below part) (let e : c.loop-k.k + 1 ≡ suc c.loop-k.k = omega arith in e),
          );
      small = omega (arith, c.loop-k.invariant.small, c.part_within.ensures.fits);
    }
