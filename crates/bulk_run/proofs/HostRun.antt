-- The run of a generated host: its jobs are legal and few, and each guest's spans are as long as
-- the run.
use Rattle.std.proofs.Common.{◌≡◌, ℕ, zero, suc, ◌*◌, ◌/◌, ◌<◌, ◌≤◌, Bool, true, false, List, [], length, get_or, Option, None, refl, sym, ◌∙◌, ap, arith, subst, lit≤}
use Rattle.std.proofs.lemmas.List.{length-map, get_or-map}
use Rattle.std.proofs.lemmas.List.FromFn.{length-map-range_with_len}
use Rattle.slot_model.specs.declared.job.Job.{Job}
use Rattle.slot_model.specs.Task.{SporadicTask, AreConstrained}
use Rattle.slot_model.specs.Release.{LegalRelease, synchronous}
use Rattle.slot_model.proofs.Synchronous.{legal_synchronous}
use Rattle.release_pattern.specs.Multiples.{at_multiples, ArePrompt}
use Rattle.release_pattern.proofs.FewJobs.{synchronous-few}
use Rattle.release_pattern.proofs.Prompt.{multiples_synchronous}
use Rattle.tree_model.specs.declared.pinned_core.Core.{Core as CoreView}
use Rattle.tree_model.specs.View.{PartView, SystemView}
use Rattle.tree_model.specs.System.{no_core, no_part, part_at, own_tasks, own_tasks_at, is_leaf, is_leaf_at}
use Rattle.tree_model.specs.Tree.{place_of, run_at, run_of as run_of_node}
use Rattle.tree_model.specs.Releases.{jobs_at, AreReleases}
use Rattle.tree_model.specs.FirstTree.{FirstTree}
use Rattle.tree_model.specs.Plans.{IsPlan}
use Rattle.tree_model.proofs.InRange.{assigned_is_plan}
use Rattle.tree_spans.specs.NodeView.{TreeView}
use Rattle.server_sched.specs.declared.supplies.Pattern.TheVariants.{Early}
use Rattle.server_sched.specs.Patterns.{pattern_slot, pattern_slots}
use Rattle.tree_spans.specs.TreeSpans.{node_at, runs_of, AreFewJobs, AreTreeSpans}
use Rattle.tree_spans.proofs.Lists.{few_in_reach}
use Rattle.tree_spans.proofs.TreeNodes.{run_here}
use Rattle.tree_spans.proofs.Nodes.{first_released}
use Rattle.bulk_host.specs.Host.{guest_period, cores_for, bulk_host, bulk_budgets}
use Rattle.bulk_host.proofs.LeafBudgets.{tasks_of, constrained_of}
use Rattle.bulk_host.proofs.Systems.{core_here, guest_here, cores-many, guests-many, host_is_system}
use Rattle.bulk_host.proofs.Admitting.{host_is_admitted}
use Rattle.bulk_run.specs.Summary.{bulk_slots, bulk_supplies, bulk_jobs}
use Rattle.bulk_run.specs.inner.Steps.{IsGuestRun, AreGuestRuns}

pub host_plan : (n : ℕ) → 1 ≤ n → n ≤ 256 → IsPlan (bulk_host n) (bulk_budgets n)
host_plan n some few =
    assigned_is_plan (bulk_host n) (host_is_system n some few) (bulk_budgets n) (host_is_admitted n some few).assigned

pub leaf_here : (n q : ℕ) → q < n → is_leaf_at (bulk_host n) q ≡ true
leaf_here n q l = ap (λ (p : PartView). is_leaf p.tasks) (guest_here n q l)

pub own_here : (n q : ℕ) → q < n → own_tasks_at (bulk_host n) q ≡ tasks_of (guest_period q)
own_here n q l = ap own_tasks (guest_here n q l)

-- the tasks of a guest have no jitter
prompt_of : (period : ℕ) → ArePrompt (tasks_of period)
prompt_of period zero l = refl
prompt_of period (suc zero) l = refl
prompt_of period (suc (suc k)) l = absurd (omega arith)

-- the jobs of a guest
pub jobs_here : (n q : ℕ) → q < n → jobs_at (bulk_jobs n) q ≡ synchronous (own_tasks_at (bulk_host n) q) 0 bulk_slots
jobs_here n q l =
    get_or-map (λ (p : PartView). at_multiples (own_tasks p) bulk_slots) (bulk_host n).parts q no_part []
    (omega (arith, guests-many n))
    ∙ multiples_synchronous (own_tasks_at (bulk_host n) q)
    (subst (λ (ts : List SporadicTask). ArePrompt ts) (sym (own_here n q l)) (prompt_of (guest_period q)))
    bulk_slots

constrained_here : (n q : ℕ) → q < n → AreConstrained (own_tasks_at (bulk_host n) q)
constrained_here n q l =
    subst (λ (ts : List SporadicTask). AreConstrained ts) (sym (own_here n q l))
    (constrained_of (guest_period q) (omega arith))

pub legal_here : (n q : ℕ) → q < n → LegalRelease (own_tasks_at (bulk_host n) q) (jobs_at (bulk_jobs n) q)
legal_here n q l =
    subst (λ (js : List Job). LegalRelease (own_tasks_at (bulk_host n) q) js) (sym (jobs_here n q l))
    (legal_synchronous (own_tasks_at (bulk_host n) q) (constrained_here n q l) 0 bulk_slots)

pub few_here : (n q : ℕ) → q < n → length (jobs_at (bulk_jobs n) q) ≤ 200000
few_here n q l =
    let two : length (own_tasks_at (bulk_host n) q) ≡ 2 = ap (λ (ts : List SporadicTask). length ts) (own_here n q l) in
    omega (
      arith,
      synchronous-few (own_tasks_at (bulk_host n) q) 0 bulk_slots,
      ap (λ (js : List Job). length js) (jobs_here n q l),
      ap (λ (z : ℕ). bulk_slots * z) two,
    )

pub jobs-many : (n : ℕ) → length (bulk_jobs n) ≡ n
jobs-many n = length-map (bulk_host n).parts (λ (p : PartView). at_multiples (own_tasks p) bulk_slots) ∙ guests-many n

absurd_leaf : (n q : ℕ) → q < n → is_leaf_at (bulk_host n) q ≡ false → jobs_at (bulk_jobs n) q ≡ []
absurd_leaf n q l e = let t = leaf_here n q l in cc

pub host_releases : (n : ℕ) → AreReleases (bulk_host n) (bulk_jobs n)
host_releases n = record {
  one_each = jobs-many n ∙ sym (guests-many n);
  legal = λ q l leaf. legal_here n q (omega (arith, guests-many n));
  none = λ q l e. absurd_leaf n q (omega (arith, guests-many n)) e;
}

pub host_few : (n : ℕ) → 1 ≤ n → n ≤ 256 → AreFewJobs (bulk_host n) (bulk_budgets n) bulk_slots (bulk_jobs n)
host_few n some few =
    few_in_reach (bulk_host n) (bulk_budgets n) bulk_slots (bulk_jobs n) (host_is_system n some few) (lit≤ tt)
    (λ q l. omega (arith, few_here n q (omega (arith, guests-many n))))

-- the same said of equal lists
pub carried : (sys other : SystemView) (budgets more : List ℕ) (supplies given : List (List Bool))
    (jobs lists : List (List Job)) (tree : TreeView) →
    sys ≡ other → budgets ≡ more → supplies ≡ given → jobs ≡ lists
    → AreTreeSpans sys budgets bulk_slots supplies jobs tree → AreTreeSpans other more bulk_slots given lists tree
carried sys other budgets more supplies given jobs lists tree a b c d h =
    subst (λ (x : SystemView). AreTreeSpans x more bulk_slots given lists tree) a
    (subst (λ (x : List ℕ). AreTreeSpans sys x bulk_slots given lists tree) b
    (subst (λ (x : List (List Bool)). AreTreeSpans sys budgets bulk_slots x lists tree) c
    (subst (λ (x : List (List Job)). AreTreeSpans sys budgets bulk_slots supplies x tree) d h)))

-- a core has every slot, and the runs are as long
pub supply_here : (n c : ℕ) → c < cores_for n → get_or (bulk_supplies n) c [] ≡ pattern_slots Early None bulk_slots
supply_here n c l =
    get_or-map (λ (core : CoreView). pattern_slots Early core.supply bulk_slots) (bulk_host n).cores c no_core []
    (omega (arith, cores-many n))
    ∙ ap (λ (core : CoreView). pattern_slots Early core.supply bulk_slots) (core_here n c l)

pub supply_long : (n c : ℕ) → c < cores_for n → length (get_or (bulk_supplies n) c []) ≡ bulk_slots
supply_long n c l =
    ap (λ (s : List Bool). length s) (supply_here n c l)
    ∙ length-map-range_with_len (pattern_slot Early None) 0 bulk_slots

core_long : (n : ℕ) (budgets : List ℕ) (cores parts : List (List (Option ℕ)))
    → FirstTree (bulk_host n) budgets bulk_slots (bulk_supplies n) (bulk_jobs n) cores parts → (c : ℕ) → c < cores_for n
    → length (run_at cores c) ≡ bulk_slots
core_long n budgets cores parts first c l = (first.cores c (omega (arith, cores-many n))).long ∙ supply_long n c l

pub part_long : (n : ℕ) (budgets : List ℕ) (cores parts : List (List (Option ℕ)))
    → FirstTree (bulk_host n) budgets bulk_slots (bulk_supplies n) (bulk_jobs n) cores parts → (q : ℕ) → q < n
    → length (run_at parts q) ≡ bulk_slots
part_long n budgets cores parts first q l =
    (first.leaves q (omega (arith, guests-many n)) (leaf_here n q l)).long
    ∙ (length-map (run_of_node cores parts (place_of (part_at (bulk_host n) q).parent)) _
    ∙ (ap (λ (p : PartView). length (run_of_node cores parts (place_of p.parent))) (guest_here n q l)
    ∙ core_long n budgets cores parts first (q / 8) (omega arith)))

-- each guest's node is that of its jobs
pub guest_run : (n : ℕ) (budgets : List ℕ) (tree : TreeView)
    → AreTreeSpans (bulk_host n) budgets bulk_slots (bulk_supplies n) (bulk_jobs n) tree → (q : ℕ) → q < n
    → IsGuestRun (jobs_at (bulk_jobs n) q) (node_at tree.parts q).spans
guest_run n budgets tree h q l =
    let is_part : q < length (bulk_host n).parts = omega (arith, guests-many n) in
    let here = run_here tree.parts q (omega (arith, h.each_part)) in
    let node = (h.parts q is_part).leaf (leaf_here n q l) in
    record {
      few = omega (arith, few_here n q l);
      works = (legal_here n q l).works;
      released = first_released _ _ _ _ _ _ node.first;
      joined = node.spans;
      long =
          ap (λ (run : List (Option ℕ)). length run) (sym here)
          ∙ part_long n budgets (runs_of tree.cores) (runs_of tree.parts) h.first q l;
    }

pub guest_runs : (n : ℕ) (budgets : List ℕ) (tree : TreeView)
    → AreTreeSpans (bulk_host n) budgets bulk_slots (bulk_supplies n) (bulk_jobs n) tree
    → AreGuestRuns (bulk_jobs n) tree.parts
guest_runs n budgets tree h = record {
  one_each = h.each_part ∙ (guests-many n ∙ sym (jobs-many n));
  each = λ q l. guest_run n budgets tree h q (omega (arith, jobs-many n));
}
