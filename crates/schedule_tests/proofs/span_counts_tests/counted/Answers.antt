use Rattle.std.proofs.Common.{List, sym, subst}
use Rattle.slot_model.specs.Miss.{HoldsReleased}
use Rattle.guest_sched.specs.declared.spans.Span.{Span}
use Rattle.guest_sched.specs.Spans.{run_of}
use Rattle.schedule_tests.proofs.span_counts_tests.counted.Goals as goal

pub misses-requires-clause-released : goal.misses-requires-clause-released
misses-requires-clause-released c =
    subst (λ (z : List Span). HoldsReleased c.args.jobs.now (run_of z)) (sym c.deref.ensures.value)
    c.in_ok-spans.ensures.released

pub first_miss-requires-clause-released : goal.first_miss-requires-clause-released
first_miss-requires-clause-released c =
    subst (λ (z : List Span). HoldsReleased c.args.jobs.now (run_of z)) (sym c.deref-2.ensures.value)
    c.in_ok-spans.ensures.released

pub count_level-requires-clause-released : goal.count_level-requires-clause-released
count_level-requires-clause-released c =
    subst (λ (z : List Span). HoldsReleased c.args.jobs.now (run_of z)) (sym c.deref-3.ensures.value)
    c.in_ok-spans.ensures.released

pub count_pending-requires-clause-released : goal.count_pending-requires-clause-released
count_pending-requires-clause-released c =
    subst (λ (z : List Span). HoldsReleased c.args.jobs.now (run_of z)) (sym c.deref-4.ensures.value)
    c.in_ok-spans.ensures.released
