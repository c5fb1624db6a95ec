use Rattle.std.proofs.Common.{◌+◌, ◌<◌, ◌≤◌, ◌^◌, ℕ, List, sym, subst, arith}
use Rattle.slot_model.specs.Task.{SporadicTask, room_of, task_at, sporadic_tasks}
use Rattle.slot_model.specs.Order.{ranks_above}
use Rattle.fp_test.specs.Falls.{IsNextFall}
use Rattle.fp_test.proofs.FallSteps.{fall_reached, fall_late, fall_never, fall_wide}
use Rattle.fp_test.proofs.fall.next_fall.Goals as goal
use Rattle.fp_test.proofs.fall.next_fall.Goals.{After-request}

-- what the deadline leaves past the jitter is small
small : (g : _) (c : After-request g)
    → room_of (task_at (sporadic_tasks c.args.task.now.tasks.now) c.args.task.now.i) + 1 < 2 ^ 128
small g c = omega (arith, c.room_at-room.ensures.exact, c.room_at-room.ensures.fits)

-- `to` is the next fall
abbrev IsFall : (g : _) → After-request g → ℕ → Type 0
IsFall g c to =
    let T : List SporadicTask = sporadic_tasks c.args.task.now.tasks.now in
    IsNextFall (ranks_above c.args.task.now.sched T) T (g.S.Supply.bound c.args.s.now) c.args.task.now.i c.args.from to

-- a fall just past the room is the one that the code answers
just_past : (g : _) (c : After-request g)
    → IsFall g c (room_of (task_at (sporadic_tasks c.args.task.now.tasks.now) c.args.task.now.i) + 1)
    → IsFall g c (c.room_at-room.result + 1)
just_past g c = subst (λ (room : ℕ). IsFall g c (room + 1)) (sym c.room_at-room.ensures.exact)

pub returns-in_default : goal.returns-in_default
returns-in_default g c =
    let at = (goal.at.returns-in_default g c).After-request in
    just_past g at (fall_wide _ _ (g.met.S.Supply.laws c.args.s.now) c.args.task.now.i c.args.from
    c.in_default.ensures (small g at))

pub returns-in_default-reach : goal.returns-in_default-reach
returns-in_default-reach g c =
    let at = (goal.at.returns-in_default-reach g c).After-request in
    just_past g at (fall_never _ _ (g.met.S.Supply.laws c.args.s.now) c.args.task.now.i c.args.from c.in-Some.asked
    c.in-Some.ensures c.in_default-reach.ensures (small g at))

pub returns-then-t-room : goal.returns-then-t-room
returns-then-t-room g c =
    let at = (goal.at.returns-then-t-room g c).After-request in
    just_past g at (fall_late _ _ (g.met.S.Supply.laws c.args.s.now) c.args.task.now.i c.args.from c.in-Some.asked
    c.in-Some-reach.t c.in-Some.ensures c.in-Some-reach.ensures
    (subst (λ (room : ℕ). room < c.in-Some-reach.t) c.room_at-room.ensures.exact c.if-t-room.true))

pub returns : goal.returns
returns g c =
    fall_reached _ _ (g.met.S.Supply.laws c.args.s.now) c.args.task.now.i c.args.from c.in-Some.asked
    c.in-Some-reach.t c.in-Some.ensures c.in-Some-reach.ensures
    (subst (λ (room : ℕ). c.in-Some-reach.t ≤ room) c.room_at-room.ensures.exact c.if-t-room.false)
