use Rattle.std.proofs.Common.{◌∙◌}
use Rattle.std.proofs.lemmas.Result.{IfOk-weaker}
use Rattle.slot_model.specs.Task.{sporadic_tasks}
use Rattle.slot_model.specs.Run.{guest}
use Rattle.slot_model.specs.Order.{edf_before}
use Rattle.slot_model.proofs.MissedJobs.{permitted_holds_released}
use Rattle.guest_sched.specs.Spans.{slots_of, run_of}
use Rattle.guest_sched.proofs.Given.{slots-long}
use Rattle.schedule_tests.proofs.span_counts_tests.spans_of.Goals as goal

pub returns-clause-long : goal.returns-clause-long
returns-clause-long c =
    IfOk-weaker c.run_spans.result _ _ (λ spans first. first.long ∙ slots-long c.args.given.now 22)
    c.run_spans.ensures.first

pub returns-clause-released : goal.returns-clause-released
returns-clause-released c =
    let T = sporadic_tasks c.args.tasks.now in
    IfOk-weaker c.run_spans.result _ _ (λ spans permitted. permitted_holds_released guest (edf_before T) T
    c.args.jobs.now (slots_of c.args.given.now 22) (run_of spans.items) permitted) c.run_spans.ensures.permitted
