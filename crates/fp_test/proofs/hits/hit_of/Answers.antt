use Rattle.std.proofs.Common.{◌^◌, ◌<◌, ◌≤◌, ℕ, List, subst, arith}
use Rattle.slot_model.specs.Task.{SporadicTask, room_of, task_at, sporadic_tasks}
use Rattle.slot_model.specs.Order.{ranks_above}
use Rattle.slot_model.specs.Bound.{rbf, IsShortTask}
use Rattle.slot_model.proofs.HandedOn.{none_handed_on}
use Rattle.slot_model.proofs.Constrained.{are_constrained}
use Rattle.fp_request.proofs.Parts.{sporadic_tasks-length}
use Rattle.fp_test.proofs.Jumps.{bound-le, passed_first, passed_more, passed_hit, passed_late, passed_wide, before_reach}
use Rattle.fp_test.proofs.hits.hit_of.Goals as goal
use Rattle.fp_test.proofs.hits.hit_of.Goals.{After-request}

-- what the deadline leaves past the jitter is small
small : (g : _) (c : After-request g)
    → room_of (task_at (sporadic_tasks c.args.task.now.tasks.now) c.args.task.now.i) < 2 ^ 128
small g c = omega (arith, c.room_at-end.ensures.exact, c.room_at-end.ensures.fits)

-- so there is no hit where a window asks for more than a number of the code holds
none_wide : (g : _) (c : After-request g) → let T : List SporadicTask = sporadic_tasks c.args.task.now.tasks.now in
    let asked : ℕ → ℕ = rbf (ranks_above c.args.task.now.sched T) T c.args.task.now.i in
    let bound : ℕ → ℕ = g.S.Supply.bound c.args.s.now in
    (t : ℕ) → ((u : ℕ) → 1 ≤ u → u < t → bound u < asked u) → 2 ^ 128 ≤ asked t
    → IsShortTask (ranks_above c.args.task.now.sched T) T bound c.args.task.now.i
none_wide g c t before wide =
    let T : List SporadicTask = sporadic_tasks c.args.task.now.tasks.now in
    passed_wide (ranks_above c.args.task.now.sched T) T (are_constrained c.args.task.now.tasks.now)
    (g.met.S.Supply.laws c.args.s.now) c.args.task.now.i t before (omega (arith, small g c, wide))

pub returns-in_err-asked : goal.returns-in_err-asked
returns-in_err-asked g c =
    let at = (goal.at.returns-in_err-asked g c).After-request in
    none_handed_on _ _ _ c.from_residual.ensures (none_wide g at 1 (λ u lu l. omega arith) c.in_err-asked.ensures)

pub returns-in_err-t : goal.returns-in_err-t
returns-in_err-t g c =
    let at = (goal.at.returns-in_err-t g c).After-request in
    none_handed_on _ _ _ c.from_residual-in_err-t.ensures
    (passed_late _ _ (g.met.S.Supply.laws c.args.s.now) c.args.task.now.i c.loop-t.asked (2 ^ 128)
    c.loop-t.invariant c.in_err-t.ensures (small g at))

pub returns-then-t-end : goal.returns-then-t-end
returns-then-t-end g c =
    passed_late _ _ (g.met.S.Supply.laws c.args.s.now) c.args.task.now.i c.loop-t.asked c.in_ok-t.t
    c.loop-t.invariant c.in_ok-t.ensures.1
    (subst (λ (room : ℕ). room < c.in_ok-t.t) (c.room_at-end.ensures.exact) c.if-t-end.true)

pub returns-in_err-more : goal.returns-in_err-more
returns-in_err-more g c =
    let at = (goal.at.returns-in_err-more g c).After-request in
    none_handed_on _ _ _ c.from_residual-in_err-more.ensures
    (none_wide g at c.in_ok-t.t (before_reach _ _ (g.met.S.Supply.laws c.args.s.now) c.args.task.now.i
    c.loop-t.asked c.in_ok-t.t c.loop-t.invariant c.in_ok-t.ensures) c.in_err-more.ensures)

pub returns-then-more-asked : goal.returns-then-more-asked
returns-then-more-asked g c =
    passed_hit _ _ (g.met.S.Supply.laws c.args.s.now) c.args.task.now.i c.loop-t.asked c.in_ok-t.t
    c.loop-t.invariant c.in_ok-t.ensures
    (subst (λ (room : ℕ). c.in_ok-t.t ≤ room) (c.room_at-end.ensures.exact) c.if-t-end.false)
    (omega (arith, c.in_ok-more.ensures))

pub loop-t-init : goal.loop-t-init
loop-t-init g c =
    passed_first _ _ (are_constrained c.args.task.now.tasks.now) (g.S.Supply.bound c.args.s.now)
    c.args.task.now.i c.in_ok-asked.asked (omega (arith, sporadic_tasks-length c.args.task.now.tasks.now))
    c.in_ok-asked.ensures

pub loop-t-preserved : goal.loop-t-preserved
loop-t-preserved g c =
    passed_more _ _ (are_constrained c.args.task.now.tasks.now) (g.met.S.Supply.laws c.args.s.now)
    c.args.task.now.i c.loop-t.asked c.in_ok-t.t c.in_ok-more.more c.loop-t.invariant c.in_ok-t.ensures
    c.in_ok-more.ensures (omega arith)

pub loop-t-smaller : goal.loop-t-smaller
loop-t-smaller g c = omega (arith, c.in_ok-t.ensures.0, bound-le (g.met.S.Supply.laws c.args.s.now) c.in_ok-t.t)
