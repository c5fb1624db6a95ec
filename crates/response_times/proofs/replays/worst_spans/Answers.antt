use Rattle.std.proofs.Common.{ℕ, ◌+◌, ap, subst}
use Rattle.std.proofs.lemmas.Result.{IfOk-weaker}
use Rattle.guest_sched.specs.Spans.{AreSpans}
use Rattle.response_times.proofs.WorstRuns.{ran_worst}
use Rattle.response_times.proofs.replays.worst_spans.Goals as goal

pub returns-clause-spans : goal.returns-clause-spans
returns-clause-spans g c =
    IfOk-weaker c.spans_by.result _ _
    (λ spans h. subst (λ (n : ℕ). AreSpans spans.items n) (ap (λ (n : ℕ). n + c.args.span) c.start-start.ensures) h)
    c.spans_by.ensures.spans

pub returns-clause-worst : goal.returns-clause-worst
returns-clause-worst g c =
    IfOk-weaker c.spans_by.result _ _
    (λ spans h. ran_worst _ _ _ (g.S.Supply.start_of c.args.s.now) c.start-start.result c.args.span
    c.in_ok-jobs.jobs.items c.as_slice.result.now c.in_ok-windows.windows.items c.deref.result.now _
    c.start-start.ensures c.as_slice.ensures.value c.deref.ensures.value c.in_ok-jobs.ensures.exact
    c.in_ok-windows.ensures.follows h) c.spans_by.ensures.first
