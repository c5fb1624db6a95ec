use Rattle.std.proofs.Common.{◌≡◌, ℕ, List, Vec, Global, length, map, refl, sym, ◌∙◌, ap, arith, subst}
use Rattle.std.specs.Prelude.{sum, sum_by}
use Rattle.std.proofs.lemmas.List.{length-map}
use Rattle.slot_model.specs.declared.job.Job.{Job}
use Rattle.slot_model.specs.Slots.{sum_below}
use Rattle.guest_sched.specs.Spans.{run_of}
use Rattle.span_counts.specs.Pending.{pairs_pending}
use Rattle.tree_model.specs.View.{SystemView}
use Rattle.tree_model.specs.Releases.{jobs_at}
use Rattle.tree_spans.specs.NodeView.{NodeView}
use Rattle.tree_spans.specs.TreeSpans.{node_at}
use Rattle.bulk_host.specs.Host.{bulk_host, bulk_budgets}
use Rattle.bulk_host.proofs.Systems.{cores-many}
use Rattle.bulk_run.specs.Summary.{bulk_jobs}
use Rattle.bulk_run.specs.inner.Steps.{AreGuestRuns}
use Rattle.bulk_run.proofs.HostRun.{jobs-many, guest_runs}
use Rattle.bulk_run.proofs.Counting.{budgets_bounded, jobs_bounded, cores_missed, guests_missed, few_at_cores, few_at_parts, guests_pending, jobs_in_all, same_counts}
use Rattle.bulk_run.proofs.counts.count_run.Goals as goal

pub sum_of-budgets-requires : goal.sum_of-budgets-requires
sum_of-budgets-requires c =
    omega
    (arith, ap (λ (b : List ℕ). sum b) (c.budgets.ensures ∙ c.requires.plan), budgets_bounded c.args.n c.requires.most)

pub number_of_jobs-number-requires : goal.number_of_jobs-number-requires
number_of_jobs-number-requires c =
    omega (
      arith,
      jobs_in_all c.args.jobs.now,
      ap (λ (js : List (List Job)). sum_by (λ (jobs : List Job). length jobs) js) c.requires.jobs,
      jobs_bounded c.args.n c.requires.most,
    )

pub misses_of-at_cores-requires : goal.misses_of-at_cores-requires
misses_of-at_cores-requires c =
    omega (
      arith,
      few_at_cores c.args.n c.requires.some c.requires.most c.args.tree.now c.requires.tree c.cores.result.now
          c.cores.ensures,
    )

pub misses_of-at_parts-requires : goal.misses_of-at_parts-requires
misses_of-at_parts-requires c =
    omega (
      arith,
      few_at_parts c.args.n c.requires.most c.args.tree.now c.requires.tree c.parts-guests.result.now
          c.parts-guests.ensures,
    )

-- there is a list of jobs for each guest
one_list_each : (n : ℕ) (jobs : List (Vec Job Global))
    → map (λ (list : Vec Job Global). list.items) jobs ≡ bulk_jobs n → length jobs ≡ n
one_list_each n jobs are =
    sym (length-map jobs (λ (list : Vec Job Global). list.items))
    ∙ (ap (λ (js : List (List Job)). length js) are ∙ jobs-many n)

pub pending_of-requires-clause-few : goal.pending_of-requires-clause-few
pending_of-requires-clause-few c =
    omega (arith, one_list_each c.args.n c.args.jobs.now c.requires.jobs, c.requires.most)

pub pending_of-requires-clause-runs : goal.pending_of-requires-clause-runs
pending_of-requires-clause-runs c =
    subst (λ (js : List (List Job)). AreGuestRuns js c.parts-guests.result.now) (sym c.requires.jobs)
    (subst (λ (ns : List NodeView). AreGuestRuns (bulk_jobs c.args.n) ns) (sym c.parts-guests.ensures)
    (guest_runs c.args.n (bulk_budgets c.args.n) c.args.tree.now c.requires.tree))

-- the counts, each as its call told it
budgets_told : (c : goal.In_ok-pending) → c.sum_of-budgets.result ≡ sum (bulk_budgets c.args.n)
budgets_told c = c.sum_of-budgets.ensures ∙ ap (λ (b : List ℕ). sum b) (c.budgets.ensures ∙ c.requires.plan)

jobs_told : (c : goal.In_ok-pending)
    → c.number_of_jobs-number.result ≡ sum_by (λ (jobs : List Job). length jobs) (bulk_jobs c.args.n)
jobs_told c =
    c.number_of_jobs-number.ensures
    ∙ (jobs_in_all c.args.jobs.now
    ∙ ap (λ (js : List (List Job)). sum_by (λ (jobs : List Job). length jobs) js) c.requires.jobs)

cores_told : (c : goal.In_ok-pending) → length c.cores-pinned.result.now ≡ length (bulk_host c.args.n).cores
cores_told c = ap length c.cores-pinned.ensures.cores ∙ ap (λ (s : SystemView). length s.cores) c.requires.host

pub returns-clause-counts : goal.returns-clause-counts
returns-clause-counts c =
    let n = c.args.n in
    let tree = c.args.tree.now in
    same_counts _ _ _ _ _ _ _ _ _ _ _ _ refl (cores_told c) (budgets_told c) (jobs_told c)
    (omega (
      arith,
      c.misses_of-at_cores.ensures.sum,
      c.misses_of-at_parts.ensures.sum,
      cores_missed n (bulk_budgets n) tree c.requires.tree c.cores.result.now c.cores.ensures,
      guests_missed n (bulk_budgets n) tree c.requires.tree c.parts-guests.result.now c.parts-guests.ensures,
    ))
    (c.in_ok-pending.ensures.counted
    ∙ (ap (λ (js : List (List Job)). sum_below
    (λ q. pairs_pending (jobs_at js q) (run_of (node_at c.parts-guests.result.now q).spans)) (length js))
    c.requires.jobs
    ∙ (ap (λ (ns : List NodeView). sum_below
    (λ q. pairs_pending (jobs_at (bulk_jobs n) q) (run_of (node_at ns q).spans)) (length (bulk_jobs n)))
    c.parts-guests.ensures
    ∙ guests_pending n (bulk_budgets n) tree c.requires.tree)))

pub returns-clause-few : goal.returns-clause-few
returns-clause-few c = record {
  guests = omega (arith, c.requires.most);
  cores = omega (arith, cores_told c, cores-many c.args.n, c.requires.most);
  budgets = omega (arith, budgets_told c, budgets_bounded c.args.n c.requires.most);
  jobs = omega (arith, jobs_told c, jobs_bounded c.args.n c.requires.most);
  missed = omega (arith, c.misses_of-at_cores.ensures.few, c.misses_of-at_parts.ensures.few);
  pending =
      omega (
        arith,
        c.in_ok-pending.ensures.few,
        one_list_each c.args.n c.args.jobs.now c.requires.jobs,
        c.requires.most,
      );
}
