use borrow.Author.Count.{below_more}
use Rattle.std.proofs.Common.{ℕ, arith}
use Rattle.slot_model.specs.Task.{sporadic_tasks}
use Rattle.slot_model.specs.Order.{ranks_above}
use Rattle.fp_request.proofs.Parts.{sporadic_tasks-length}
use Rattle.least_budget.specs.inner.Hits.{HasHit}
use Rattle.least_budget.proofs.Testing.{fixed_passes, first_without_hit}
use Rattle.least_budget.proofs.level_test.test_by_rank.Goals as goal

pub returns-then-not-has_hit_within : goal.returns-then-not-has_hit_within
returns-then-not-has_hit_within g c =
    first_without_hit c.args.level.now.sched c.args.level.now.fixed (sporadic_tasks c.args.level.now.tasks.now)
    (g.S.Supply.bound c.args.s.now)
    (g.S.Supply.cycle_of c.args.s.now) c.loop-i.i (omega (arith, sporadic_tasks-length c.args.level.now.tasks.now))
    (λ has. let e = c.has_hit_within.ensures.1 has in absurd (cc)) c.loop-i.invariant

pub loop-i-preserved : goal.loop-i-preserved
loop-i-preserved g c =
    below_more (λ (k : ℕ). HasHit (ranks_above c.args.level.now.sched (sporadic_tasks c.args.level.now.tasks.now))
    (sporadic_tasks c.args.level.now.tasks.now) (g.S.Supply.bound c.args.s.now) k) c.loop-i.i c.loop-i.invariant
    (c.has_hit_within.ensures.0 c.if-not-has_hit_within.false)

pub returns : goal.returns
returns g c =
    fixed_passes c.args.level.now.sched c.args.level.now.fixed (sporadic_tasks c.args.level.now.tasks.now)
    (g.S.Supply.bound c.args.s.now)
    (g.S.Supply.cycle_of c.args.s.now) c.loop-i.i (omega (arith, sporadic_tasks-length c.args.level.now.tasks.now))
    c.loop-i.invariant
