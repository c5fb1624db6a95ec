use Rattle.std.proofs.Common.{◌≡◌, ℕ, List, subst, sym, arith}
use Rattle.slot_model.specs.Task.{sporadic_tasks}
use Rattle.slot_model.specs.Release.{synchronous}
use Rattle.slot_model.proofs.Constrained.{are_constrained}
use Rattle.server_sched.specs.declared.serving.Server.{Server}
use Rattle.server_sched.specs.inner.Serving.{IsChosen, AtRest, Tallies, is_late}
use Rattle.server_sched.proofs.LevelServed.{late_at_end, late_before_next}
use Rattle.server_sched.proofs.served.whole_tally.Goals as goal

pub returns-then-level : goal.returns-then-level
returns-then-level c = λ sched slots h end next.
    let T = sporadic_tasks c.args.tasks.now in
    let level = c.args.level.now in
    let n = level.slots in
    let at : level.come.next ≡ n = omega (arith, c.if-level.true) in
    let rest : AtRest sched T n h.run n level.come.released n level.servers.items
    = subst (λ (z : ℕ). AtRest sched T n h.run n level.come.released z level.servers.items) at
    (subst (λ (x : ℕ). AtRest sched T n h.run x level.come.released level.come.next level.servers.items) end
    h.rest) in
    let tallied : Tallies T (synchronous T 0 n) h.run (is_late T (synchronous T 0 n) h.run n 0) level.tally.missed
    level.tally.first
    = subst (λ (z : ℕ). Tallies T (synchronous T 0 n) h.run (is_late T (synchronous T 0 n) h.run z 0)
    level.tally.missed level.tally.first) at h.tallied in
    late_at_end sched T (are_constrained c.args.tasks.now) slots level h end c.close.new.tally.missed
    c.close.new.tally.first (c.close.ensures sched n h.run level.come.released (omega arith)
    (subst (λ (s : List Server). IsChosen s level.best) (sym c.deref.ensures.value) h.chosen)
    (subst (λ (s : List Server). AtRest sched T n h.run n level.come.released n s) (sym c.deref.ensures.value) rest)
    tallied)

pub returns-else-level : goal.returns-else-level
returns-else-level c = λ sched slots h end next.
    let T = sporadic_tasks c.args.tasks.now in
    let level = c.args.level.now in
    late_at_end sched T (are_constrained c.args.tasks.now) slots level h end level.tally.missed level.tally.first
    (late_before_next sched T (are_constrained c.args.tasks.now) c.requires.tasks slots level h end
    (omega (arith, next, c.if-level.false)))
