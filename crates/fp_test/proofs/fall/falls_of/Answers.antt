use Rattle.std.proofs.Common.{ℕ, ◌<◌, Bool, List, sym, subst, arith}
use Rattle.slot_model.specs.Task.{SporadicTask, sporadic_tasks}
use Rattle.slot_model.specs.Order.{ranks_above}
use Rattle.fp_test.proofs.FallSteps.{FallsTo, fall_later, falls_more}
use Rattle.fp_test.proofs.fall.falls_of.Goals as goal
use Rattle.fp_test.proofs.fall.falls_of.Goals.{After-next_fall-last}

-- the next fall is later than the last
later : (g : _) (c : After-next_fall-last g) → c.loop-last.last < c.next_fall-last.result
later g c =
    fall_later _ _ (g.S.Supply.bound c.args.s.now) (g.met.S.Supply.laws c.args.s.now).never_falls c.args.task.now.i
    c.loop-last.last c.next_fall-last.result c.requires c.loop-last.invariant.some_slots
    (omega (
      arith,
      c.loop-last-test.true,
      c.room_at-end.ensures.exact,
    ))
    c.next_fall-last.ensures

pub loop-last-preserved : goal.loop-last-preserved
loop-last-preserved g c =
    let T : List SporadicTask = sporadic_tasks c.args.task.now.tasks.now in
    let above : ℕ → ℕ → Bool = ranks_above c.args.task.now.sched T in
    subst (λ (xs : List ℕ). FallsTo above T (g.S.Supply.bound c.args.s.now) c.args.task.now.i xs
    c.next_fall-last.result) (sym c.in_ok-push-2.ensures.items)
    (falls_more above T (g.S.Supply.bound c.args.s.now) c.args.task.now.i c.loop-last.windows.items c.loop-last.last
    c.next_fall-last.result c.loop-last.invariant c.next_fall-last.ensures
    (later g (goal.at.loop-last-preserved g c).After-next_fall-last))

pub loop-last-smaller : goal.loop-last-smaller
loop-last-smaller g c = omega (arith, later g (goal.at.loop-last-smaller g c).After-next_fall-last)
