use Rattle.std.proofs.Common.{sym, subst, IfOk}
use Rattle.slot_model.specs.Task.{sporadic_tasks}
use Rattle.slot_model.specs.Order.{before_of}
use Rattle.slot_model.specs.declared.sched.Sched.{Sched}
use Rattle.guest_sched.specs.Spans.{run_of}
use Rattle.guest_sched.specs.Levels.{FirstRunOf}
use Rattle.guest_sched.proofs.level.spans_by.Goals as goal

pub returns-in-Some-clause-first : goal.returns-in-Some-clause-first
returns-in-Some-clause-first c =
    let level = c.args.level.now in
    subst (λ (s : Sched). IfOk c.run_spans.result (λ spans. FirstRunOf level
    (before_of s (sporadic_tasks level.tasks.now)) (run_of spans.items))) c.in-Some.ensures.0
    c.run_spans.ensures.first

pub returns-in-None-clause-first : goal.returns-in-None-clause-first
returns-in-None-clause-first c =
    let level = c.args.level.now in
    subst (λ (s : Sched). IfOk c.run_spans-in-None.result (λ spans. FirstRunOf level
    (before_of s (sporadic_tasks level.tasks.now)) (run_of spans.items))) (sym c.in-None.ensures)
    c.run_spans-in-None.ensures.first
