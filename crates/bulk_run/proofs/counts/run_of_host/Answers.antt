use Rattle.std.proofs.Common.{◌≡◌, ℕ, List, Vec, Global, map, sym, ◌∙◌, ap, subst}
use Rattle.slot_model.specs.declared.job.Job.{Job}
use Rattle.guest_sched.specs.Spans.{Window}
use Rattle.tree_model.specs.View.{SystemView}
use Rattle.tree_model.specs.Plans.{IsPlan}
use Rattle.tree_model.specs.Releases.{AreReleases}
use Rattle.server_sched.specs.declared.supplies.Pattern.TheVariants.{Early}
use Rattle.server_sched.specs.Patterns.{pattern_supplies}
use Rattle.tree_spans.specs.TreeSpans.{supplies_of, AreFewJobs}
use Rattle.bulk_host.specs.Host.{bulk_host, bulk_budgets}
use Rattle.bulk_run.specs.Summary.{bulk_slots, bulk_supplies, bulk_jobs}
use Rattle.bulk_run.proofs.HostRun.{host_plan, host_releases, host_few, carried}
use Rattle.bulk_run.proofs.counts.run_of_host.Goals as goal

pub span_tree-requires-clause-plan : goal.span_tree-requires-clause-plan
span_tree-requires-clause-plan c =
    subst (λ (s : SystemView). IsPlan s c.args.plan.now) (sym c.requires.host)
    (subst (λ (b : List ℕ). IsPlan (bulk_host c.args.n) b) (sym c.requires.plan)
    (host_plan c.args.n c.requires.some c.requires.most))

pub span_tree-requires-clause-jobs : goal.span_tree-requires-clause-jobs
span_tree-requires-clause-jobs c =
    subst (λ (s : SystemView). AreReleases s (map (λ (list : Vec Job Global). list.items) c.args.jobs.now))
    (sym c.requires.host) (subst (λ (js : List (List Job)). AreReleases (bulk_host c.args.n) js) (sym c.requires.jobs)
    (host_releases c.args.n))

pub span_tree-requires-clause-few : goal.span_tree-requires-clause-few
span_tree-requires-clause-few c =
    subst (λ (s : SystemView). AreFewJobs s c.args.plan.now bulk_slots
    (map (λ (list : Vec Job Global). list.items) c.args.jobs.now)) (sym c.requires.host)
    (subst (λ (b : List ℕ). AreFewJobs (bulk_host c.args.n) b bulk_slots
    (map (λ (list : Vec Job Global). list.items) c.args.jobs.now)) (sym c.requires.plan)
    (subst (λ (js : List (List Job)). AreFewJobs (bulk_host c.args.n) (bulk_budgets c.args.n) bulk_slots js)
    (sym c.requires.jobs) (host_few c.args.n c.requires.some c.requires.most)))

pub returns : goal.returns
returns c =
    let given : supplies_of (map (λ (g : Vec Window Global). g.items) c.deref.result.now) bulk_slots
    ≡ bulk_supplies c.args.n
    =
    ap (λ (gs : List (Vec Window Global)). supplies_of (map (λ (g : Vec Window Global). g.items) gs) bulk_slots)
    c.deref.ensures.value
    ∙ (c.in_ok-given.ensures.exact ∙ ap (λ (s : SystemView). pattern_supplies s Early bulk_slots) c.requires.host) in
    carried c.args.sys.now (bulk_host c.args.n) c.args.plan.now (bulk_budgets c.args.n)
    (supplies_of (map (λ (g : Vec Window Global). g.items) c.deref.result.now) bulk_slots) (bulk_supplies c.args.n)
    (map (λ (list : Vec Job Global). list.items) c.args.jobs.now) (bulk_jobs c.args.n) _ c.requires.host c.requires.plan
    given c.requires.jobs c.in_ok-tree.ensures.spans
