use Rattle.std.proofs.Common.{◌≡◌, ◌≤◌, ◌^◌, ◌∙◌, ◌+◌, ℕ, Bool, List, sym, ap, arith}
use Rattle.slot_model.specs.Task.{SporadicTask, sporadic_task, sporadic_tasks, task_at}
use Rattle.slot_model.specs.Order.{ranks_above}
use Rattle.slot_model.specs.Bound.{request_of, rbf}
use Rattle.slot_model.proofs.HandedOn.{none_handed_on}
use Rattle.slot_model.proofs.Sums.{sum_below-zero}
use Rattle.fp_request.specs.Parts.{part_of}
use Rattle.fp_request.proofs.Parts.{request_to, task_at-is, item_request, request_to-above, request_to-not_above, request_to-more, sporadic_tasks-length}
use Rattle.fp_request.proofs.request_bound.request_past.Goals as goal
use Rattle.fp_request.proofs.request_bound.request_past.Goals.{After-ranks, After-request_of_task, then-ranks+in_ok-request_of_task+in_ok-sum, else-ranks}

-- what the task of this turn asks for, from what the code reads of it
asks : (c : After-ranks)
    → request_of (task_at (sporadic_tasks c.args.tasks.now) c.loop-k.k) c.args.t
    ≡ request_of (sporadic_task c.index-tasks-k.result) c.args.t
asks c =
    item_request c.args.tasks.now c.loop-k.k c.args.t c.index-tasks-k.result c.loop-k-test.true c.index-tasks-k.is

-- where the tasks up to this one ask for more than a number of the code holds, all do
too_much : (c : After-request_of_task) → let T : List SporadicTask = sporadic_tasks c.args.tasks.now in
    let above : ℕ → ℕ → Bool = ranks_above c.args.sched T in
    2 ^ 128 ≤ request_to above T c.args.i c.args.t c.loop-k.k + request_of (task_at T c.loop-k.k) c.args.t
    → 2 ^ 128 ≤ rbf above T c.args.i c.args.t
too_much c =
    let T : List SporadicTask = sporadic_tasks c.args.tasks.now in
    request_to-more (ranks_above c.args.sched T) T c.args.i c.args.t c.loop-k.k (2 ^ 128)
    (sym c.ranks.ensures ∙ c.if-ranks.true) (omega (arith, c.loop-k-test.true, sporadic_tasks-length c.args.tasks.now))

pub loop-k-init : goal.loop-k-init
loop-k-init c =
    omega (
      arith,
      sum_below-zero (part_of (ranks_above c.args.sched (sporadic_tasks c.args.tasks.now))
          (sporadic_tasks c.args.tasks.now) c.args.i c.args.t),
      ap (λ (z : SporadicTask). z.work)
          (task_at-is c.args.tasks.now c.args.i c.index-tasks-i.result c.requires.i_named),
    )

pub loop-k-preserved : goal.loop-k-preserved
loop-k-preserved c =
    let at = (goal.at.loop-k-preserved c).After-ranks in
    let T : List SporadicTask = sporadic_tasks c.args.tasks.now in
    elim c.if-ranks.branch [
      | then-ranks+in_ok-request_of_task+in_ok-sum w ↦
          omega (
            arith,
            asks at,
            w.sum-is,
            c.loop-k.invariant,
            w.in_ok-request_of_task.ensures,
            w.in_ok-sum.ensures,
            request_to-above (ranks_above c.args.sched T) T c.args.i c.args.t c.loop-k.k
                (sym c.ranks.ensures ∙ w.if-ranks.true),
          )
      | else-ranks w ↦
          omega (
            arith,
            w.sum-is,
            c.loop-k.invariant,
            request_to-not_above (ranks_above c.args.sched T) T c.args.i c.args.t c.loop-k.k
                (sym c.ranks.ensures ∙ w.if-ranks.false),
          )
    ]

pub returns-in_err-request_of_task : goal.returns-in_err-request_of_task
returns-in_err-request_of_task c =
    let at = goal.at.returns-in_err-request_of_task c in
    none_handed_on _ _ _ c.from_residual.ensures
    (too_much at.After-request_of_task
    (omega (arith, asks at.After-ranks, c.in_err-request_of_task.ensures)))

pub returns-in_err-sum : goal.returns-in_err-sum
returns-in_err-sum c =
    let at = goal.at.returns-in_err-sum c in
    none_handed_on _ _ _ c.from_residual-in_err-sum.ensures
    (too_much at.After-request_of_task
    (omega (
      arith,
      asks at.After-ranks,
      c.loop-k.invariant,
      c.in_ok-request_of_task.ensures,
      c.in_err-sum.ensures,
    )))
