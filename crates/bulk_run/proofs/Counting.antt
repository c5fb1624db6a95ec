-- What is counted of a generated host, node by node, and how much it can be.
use Rattle.std.proofs.Common.{◌≡◌, ℕ, zero, suc, ◌*◌, ◌^◌, ◌<◌, ◌≤◌, List, [], ◌∷◌, length, map, get_or, Option, Vec, Global, refl, sym, ◌∙◌, ap, arith, subst}
use Rattle.std.specs.Prelude.{sum, sum_by}
use Rattle.std.proofs.lemmas.List.{get_or-map, get_or_default}
use Rattle.std.proofs.lemmas.List.Sums.{sum_by-cons}
use Rattle.std.proofs.lemmas.List.FromFn.{length-map-range_with_len}
use Rattle.slot_model.specs.declared.job.Job.{Job}
use Rattle.slot_model.specs.Slots.{sum_below}
use Rattle.slot_model.specs.Task.{SporadicTask}
use Rattle.slot_model.specs.Miss.{is_missed}
use Rattle.slot_model.proofs.Sums.{sum_below-zero, sum_below-suc, sum_below-same}
use Rattle.slot_model.proofs.Windows.{sum_by-places}
use Rattle.slot_model.proofs.Runs.{count_below-le}
use Rattle.guest_sched.specs.declared.spans.Span.{Span}
use Rattle.guest_sched.specs.Spans.{run_of}
use Rattle.span_counts.specs.Pending.{pairs_pending}
use Rattle.tree_model.specs.declared.place.Place.TheVariants.{Core}
use Rattle.tree_model.specs.Tree.{server_tasks, server_jobs, run_at, budget_at}
use Rattle.tree_model.specs.System.{own_tasks_at}
use Rattle.tree_model.specs.Releases.{jobs_at}
use Rattle.tree_spans.specs.NodeView.{NodeView, TreeView}
use Rattle.tree_spans.specs.TreeSpans.{node_at, runs_of, AreTreeSpans}
use Rattle.tree_spans.proofs.TreeNodes.{run_here}
use Rattle.bulk_host.specs.Host.{guest_budget, bulk_host, bulk_budgets}
use Rattle.bulk_host.proofs.Servers.{budget_here}
use Rattle.bulk_host.proofs.Systems.{cores-many, guests-many}
use Rattle.bulk_run.specs.declared.counts.BulkCounts.{BulkCounts}
use Rattle.bulk_run.specs.Summary.{bulk_slots, bulk_supplies, bulk_jobs, misses_in, core_misses, guest_misses, guest_pending}
use Rattle.bulk_run.specs.inner.Steps.{IsGuestRun, AreGuestRuns}
use Rattle.bulk_run.proofs.HostRun.{leaf_here, few_here, host_few, jobs-many}

-- a sum of terms that are each at most m
pub sum_bounded : (f : ℕ → ℕ) (m n : ℕ) → ((x : ℕ) → x < n → f x ≤ m) → sum_below f n ≤ n * m
sum_bounded f m zero h = omega (arith, sum_below-zero f)
sum_bounded f m (suc n) h =
    omega (arith, sum_below-suc f n, sum_bounded f m n (λ x l. h x (omega arith)), h n (omega arith))

pub misses_bounded : (tasks : List SporadicTask) (jobs : List Job) (run : List (Option ℕ))
    → misses_in tasks jobs run ≤ length jobs
misses_bounded tasks jobs run = count_below-le (is_missed tasks jobs run) (length jobs)

-- the sum of the budgets, guest by guest
pub budgets_by_guest : (n : ℕ) → sum (bulk_budgets n) ≡ sum_below (budget_at (bulk_budgets n)) n
budgets_by_guest n =
    sum_by-places (λ (x : ℕ). x) 0 (bulk_budgets n)
    ∙ ap (sum_below (budget_at (bulk_budgets n))) (length-map-range_with_len guest_budget 0 n)

pub budgets_bounded : (n : ℕ) → n ≤ 256 → sum (bulk_budgets n) < 2 ^ 58
budgets_bounded n few =
    omega (
      arith,
      budgets_by_guest n,
      sum_bounded (budget_at (bulk_budgets n)) 1000 n (λ q l. omega (arith, budget_here n q l)),
    )

-- the number of the jobs
pub jobs_by_guest : (n : ℕ)
    → sum_by (λ (jobs : List Job). length jobs) (bulk_jobs n) ≡ sum_below (λ q. length (jobs_at (bulk_jobs n) q)) n
jobs_by_guest n =
    sum_by-places (λ (jobs : List Job). length jobs) [] (bulk_jobs n)
    ∙ ap (sum_below (λ q. length (jobs_at (bulk_jobs n) q))) (jobs-many n)

pub jobs_bounded : (n : ℕ) → n ≤ 256 → sum_by (λ (jobs : List Job). length jobs) (bulk_jobs n) < 2 ^ 58
jobs_bounded n few =
    omega (arith, jobs_by_guest n, sum_bounded (λ q. length (jobs_at (bulk_jobs n) q)) 200000 n (λ q l. few_here n q l))

-- the misses of the cores, and of the guests
pub core_missed : (n : ℕ) (budgets : List ℕ) (tree : TreeView)
    → AreTreeSpans (bulk_host n) budgets bulk_slots (bulk_supplies n) (bulk_jobs n) tree → (c : ℕ)
    → c < length tree.cores → (node_at tree.cores c).counts.missed ≡ core_misses n budgets (runs_of tree.cores) c
core_missed n budgets tree h c l =
    (h.cores c (omega (arith, h.each_core))).counts.missed
    ∙ ap (λ (run : List (Option ℕ)). misses_in (server_tasks (bulk_host n) budgets (Core c))
    (server_jobs (bulk_host n) budgets (Core c) bulk_slots) run) (sym (run_here tree.cores c l))

pub guest_missed : (n : ℕ) (budgets : List ℕ) (tree : TreeView)
    → AreTreeSpans (bulk_host n) budgets bulk_slots (bulk_supplies n) (bulk_jobs n) tree → (q : ℕ)
    → q < length tree.parts → (node_at tree.parts q).counts.missed ≡ guest_misses n (runs_of tree.parts) q
guest_missed n budgets tree h q l =
    ((h.parts q (omega (arith, h.each_part))).leaf
    (leaf_here n q (omega (arith, h.each_part, guests-many n)))).counts.missed
    ∙ ap (λ (run : List (Option ℕ)). misses_in (own_tasks_at (bulk_host n) q) (jobs_at (bulk_jobs n) q) run)
    (sym (run_here tree.parts q l))

pub cores_missed : (n : ℕ) (budgets : List ℕ) (tree : TreeView)
    → AreTreeSpans (bulk_host n) budgets bulk_slots (bulk_supplies n) (bulk_jobs n) tree → (nodes : List NodeView)
    → nodes ≡ tree.cores →
    sum_by (λ (node : NodeView). node.counts.missed) nodes
    ≡ sum_below (core_misses n budgets (runs_of tree.cores)) (length (bulk_host n).cores)
cores_missed n budgets tree h nodes same =
    ap (λ (ns : List NodeView). sum_by (λ (node : NodeView). node.counts.missed) ns) same
    ∙ (sum_by-places (λ (node : NodeView). node.counts.missed) (node_at [] 0) tree.cores
    ∙ (sum_below-same (λ c. (node_at tree.cores c).counts.missed) (core_misses n budgets (runs_of tree.cores))
    (length tree.cores) (λ c l. core_missed n budgets tree h c l)
    ∙ ap (sum_below (core_misses n budgets (runs_of tree.cores))) h.each_core))

pub guests_missed : (n : ℕ) (budgets : List ℕ) (tree : TreeView)
    → AreTreeSpans (bulk_host n) budgets bulk_slots (bulk_supplies n) (bulk_jobs n) tree → (nodes : List NodeView)
    → nodes ≡ tree.parts →
    sum_by (λ (node : NodeView). node.counts.missed) nodes
    ≡ sum_below (guest_misses n (runs_of tree.parts)) (length (bulk_host n).parts)
guests_missed n budgets tree h nodes same =
    ap (λ (ns : List NodeView). sum_by (λ (node : NodeView). node.counts.missed) ns) same
    ∙ (sum_by-places (λ (node : NodeView). node.counts.missed) (node_at [] 0) tree.parts
    ∙ (sum_below-same (λ q. (node_at tree.parts q).counts.missed) (guest_misses n (runs_of tree.parts))
    (length tree.parts) (λ q l. guest_missed n budgets tree h q l)
    ∙ ap (sum_below (guest_misses n (runs_of tree.parts))) h.each_part))

-- they are few
pub few_at_cores : (n : ℕ) → 1 ≤ n → n ≤ 256 → (tree : TreeView)
    → AreTreeSpans (bulk_host n) (bulk_budgets n) bulk_slots (bulk_supplies n) (bulk_jobs n) tree
    → (nodes : List NodeView) → nodes ≡ tree.cores → sum_by (λ (node : NodeView). node.counts.missed) nodes < 2 ^ 48
few_at_cores n some few tree h nodes same =
    let jobs = host_few n some few in
    let runs : List (List (Option ℕ)) = runs_of tree.cores in
    let each
    = sum_bounded (core_misses n (bulk_budgets n) runs) (2 ^ 32) (length (bulk_host n).cores)
    (λ c l. omega (
      arith,
      misses_bounded (server_tasks (bulk_host n) (bulk_budgets n) (Core c))
          (server_jobs (bulk_host n) (bulk_budgets n) (Core c) bulk_slots) (run_at runs c),
      jobs.servers (Core c) l,
    )) in
    omega (arith, each, cores-many n, cores_missed n (bulk_budgets n) tree h nodes same)

pub few_at_parts : (n : ℕ) → n ≤ 256 → (tree : TreeView)
    → AreTreeSpans (bulk_host n) (bulk_budgets n) bulk_slots (bulk_supplies n) (bulk_jobs n) tree
    → (nodes : List NodeView) → nodes ≡ tree.parts → sum_by (λ (node : NodeView). node.counts.missed) nodes < 2 ^ 48
few_at_parts n few tree h nodes same =
    let runs : List (List (Option ℕ)) = runs_of tree.parts in
    let each
    = sum_bounded (guest_misses n runs) (2 ^ 32) (length (bulk_host n).parts)
    (λ q l. omega (
      arith,
      misses_bounded (own_tasks_at (bulk_host n) q) (jobs_at (bulk_jobs n) q) (run_at runs q),
      few_here n q (omega (arith, guests-many n)),
    )) in
    omega (arith, each, guests-many n, guests_missed n (bulk_budgets n) tree h nodes same)

-- the pairs that are pending
pub guests_pending : (n : ℕ) (budgets : List ℕ) (tree : TreeView)
    → AreTreeSpans (bulk_host n) budgets bulk_slots (bulk_supplies n) (bulk_jobs n) tree →
    sum_below (λ q. pairs_pending (jobs_at (bulk_jobs n) q) (run_of (node_at tree.parts q).spans))
    (length (bulk_jobs n)) ≡ sum_below (guest_pending n (runs_of tree.parts)) (length (bulk_host n).parts)
guests_pending n budgets tree h =
    sum_below-same (λ q. pairs_pending (jobs_at (bulk_jobs n) q) (run_of (node_at tree.parts q).spans))
    (guest_pending n (runs_of tree.parts)) (length (bulk_jobs n))
    (λ q l. ap (λ (run : List (Option ℕ)). pairs_pending (jobs_at (bulk_jobs n) q) run)
    (sym (run_here tree.parts q (omega (arith, h.each_part, guests-many n, jobs-many n)))))
    ∙ ap (sum_below (guest_pending n (runs_of tree.parts))) (jobs-many n ∙ sym (guests-many n))

pub same_counts : (a a' b b' c c' d d' e e' f f' : ℕ) → a ≡ a' → b ≡ b' → c ≡ c' → d ≡ d' → e ≡ e' → f ≡ f' →
    ◌≡◌ {A = BulkCounts} (record { guests = a; cores = b; budgets = c; jobs = d; missed = e; pending = f })
    (record { guests = a'; cores = b'; budgets = c'; jobs = d'; missed = e'; pending = f' })
same_counts a a' b b' c c' d d' e e' f f' p q r s t u = cc

-- the jobs of lists and of vectors
pub jobs_in_all : (xs : List (Vec Job Global))
    → sum_by (λ (list : Vec Job Global). length list.items) xs
    ≡ sum_by (λ (jobs : List Job). length jobs) (map (λ (list : Vec Job Global). list.items) xs)
jobs_in_all [] = refl
jobs_in_all (x ∷ xs) =
    omega (
      arith,
      sum_by-cons (λ (list : Vec Job Global). length list.items) x xs,
      sum_by-cons (λ (jobs : List Job). length jobs) x.items (map (λ (list : Vec Job Global). list.items) xs),
      jobs_in_all xs,
    )

-- the jobs and the spans at a place
pub record AreFound (lists : List (List Job)) (nodes : List NodeView) (place : ℕ) (jobs : List Job) (spans : List Span)
    : Type 0 where
  pub jobs_is : jobs_at lists place ≡ jobs
  pub spans_is : (node_at nodes place).spans ≡ spans

pub found : (vecs : List (Vec Job Global)) (nodes : List NodeView) (place : ℕ) (list : Vec Job Global) (node : NodeView)
    (jobs : List Job) →
    place < length vecs → place < length nodes → list ≡ get_or vecs place list → jobs ≡ list.items
    → node ≡ get_or nodes place node →
    AreFound (map (λ (list : Vec Job Global). list.items) vecs) nodes place jobs node.spans
found vecs nodes place list node jobs l m a b c = record {
  jobs_is =
      get_or-map (λ (v : Vec Job Global). v.items) vecs place list [] l
      ∙ (ap (λ (v : Vec Job Global). v.items) (sym a) ∙ sym b);
  spans_is = ap (λ (x : NodeView). x.spans) (get_or_default nodes place (node_at [] 0) node m ∙ sym c);
}

pub run_found : (lists : List (List Job)) (nodes : List NodeView) (place : ℕ) (jobs : List Job) (spans : List Span)
    → AreFound lists nodes place jobs spans → AreGuestRuns lists nodes → place < length lists → IsGuestRun jobs spans
run_found lists nodes place jobs spans f h l =
    subst (λ (js : List Job). IsGuestRun js spans) f.jobs_is
    (subst (λ (s : List Span). IsGuestRun (jobs_at lists place) s) f.spans_is (h.each place l))

pub pending_found : (lists : List (List Job)) (nodes : List NodeView) (place : ℕ) (jobs : List Job) (spans : List Span)
    → AreFound lists nodes place jobs spans
    → pairs_pending jobs (run_of spans) ≡ pairs_pending (jobs_at lists place) (run_of (node_at nodes place).spans)
pending_found lists nodes place jobs spans f =
    ap (λ (js : List Job). pairs_pending js (run_of spans)) (sym f.jobs_is)
    ∙ ap (λ (s : List Span). pairs_pending (jobs_at lists place) (run_of s)) (sym f.spans_is)
