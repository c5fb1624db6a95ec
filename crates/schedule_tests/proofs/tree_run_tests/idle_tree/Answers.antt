use Rattle.std.proofs.Common.{List, sym, subst, Vec, Global}
use Rattle.slot_model.specs.declared.job.Job.{Job}
use Rattle.tree_spans.specs.TreeSpans.{AreFewJobs}
use Rattle.tree_spans.proofs.Lists.{few_in_reach, job_lists}
use Rattle.schedule_tests.proofs.tree_run_tests.idle_tree.Goals as goal

pub span_tree-requires-clause-few : goal.span_tree-requires-clause-few
span_tree-requires-clause-few g c =
    subst (λ (v : List (Vec Job Global)). AreFewJobs c.args.sys.now c.args.plan.now c.args.slots (job_lists v))
    (sym c.deref.ensures.value)
    (few_in_reach c.args.sys.now c.args.plan.now c.args.slots (job_lists c.no_jobs-jobs.result.items)
    c.no_jobs-jobs.ensures.system c.requires.short c.no_jobs-jobs.ensures.few)

pub count_tree-requires-clause-few : goal.count_tree-requires-clause-few
count_tree-requires-clause-few g c =
    subst (λ (v : List (Vec Job Global)). AreFewJobs c.args.sys.now c.args.plan.now c.args.slots (job_lists v))
    (sym c.deref-3.ensures.value)
    (few_in_reach c.args.sys.now c.args.plan.now c.args.slots (job_lists c.no_jobs-jobs.result.items)
    c.no_jobs-jobs.ensures.system c.requires.short c.no_jobs-jobs.ensures.few)
