-- The host of n guests has full cores, each of which runs as the host of eight guests does, and one
-- more for the guests that are left, which runs as the host of these does. So its counts are theirs
-- in sum.
use Rattle.std.proofs.Common.{◌≡◌, ℕ, ◌+◌, ◌*◌, ◌/◌, ◌%◌, ◌<◌, ◌≤◌, Bool, true, false, cond, ltb, List, [], length, map, get_or, Option, refl, sym, ◌∙◌, ap, subst, arith, inl, inr}
use Rattle.std.specs.Prelude.{sum, sum_by}
use Rattle.std.proofs.Math.Nat.{mul-add}
use Rattle.std.specs.List.{range_with_len}
use Rattle.std.proofs.lemmas.Bool.{cases_lt, lt-ltb, le-ltb, true≢false}
use Rattle.std.proofs.lemmas.List.FromFn.{length-map-range_with_len, get_or-map-range_with_len}
use Rattle.slot_model.specs.declared.job.Job.{Job}
use Rattle.slot_model.specs.Slots.{sum_below}
use Rattle.slot_model.proofs.Sums.{sum_below-zero}
use Rattle.tree_model.specs.declared.place.Place.TheVariants.{Core}
use Rattle.tree_model.specs.Tree.{run_at, budget_at, supply_of}
use Rattle.tree_model.specs.Releases.{jobs_at}
use Rattle.tree_model.specs.FirstTree.{FirstServers, FirstLeaf, FirstTree}
use Rattle.bulk_host.specs.Host.{cores_for, bulk_host, bulk_budgets}
use Rattle.bulk_host.proofs.Systems.{cores-many, guests-many}
use Rattle.bulk_host.proofs.Admitting.{host_is_admitted}
use Rattle.bulk_run.specs.declared.counts.BulkCounts.{BulkCounts}
use Rattle.bulk_run.specs.Summary.{bulk_slots, bulk_supplies, bulk_jobs, core_misses, guest_misses, guest_pending, counts_in, AreBulkCounts}
use Rattle.bulk_run.specs.inner.Steps.{HostFirstRun, AreHostCounts, times, plus}
use Rattle.bulk_run.proofs.HostRun.{leaf_here}
use Rattle.bulk_run.proofs.Counting.{budgets_by_guest, jobs_by_guest, same_counts}
use Rattle.bulk_run.proofs.Blocks.{in_blocks}
use Rattle.bulk_run.proofs.Copies.{IsCopy, jobs_same, budget_same, copy_runs, copied_guest_runs, copy_misses, copied_guest_misses, copied_guest_pending}

-- the run of a full core again and again, and then that of the rest, and so with the guests
core_run : (n : ℕ) → HostFirstRun 8 → HostFirstRun (n % 8) → ℕ → List (Option ℕ)
core_run n full rest c = cond (ltb c (n / 8)) (run_at full.cores 0) (run_at rest.cores 0)

part_run : (n : ℕ) → HostFirstRun 8 → HostFirstRun (n % 8) → ℕ → List (Option ℕ)
part_run n full rest q = cond (ltb (q / 8) (n / 8)) (run_at full.parts (q % 8)) (run_at rest.parts (q % 8))

abbrev all_cores : (n : ℕ) → HostFirstRun 8 → HostFirstRun (n % 8) → List (List (Option ℕ))
all_cores n full rest = map (core_run n full rest) (range_with_len 0 (cores_for n))

abbrev all_parts : (n : ℕ) → HostFirstRun 8 → HostFirstRun (n % 8) → List (List (Option ℕ))
all_parts n full rest = map (part_run n full rest) (range_with_len 0 n)

core_here : (n : ℕ) (full : HostFirstRun 8) (rest : HostFirstRun (n % 8)) (c : ℕ) (before : Bool)
    → ltb c (n / 8) ≡ before → c < cores_for n
    → run_at (all_cores n full rest) c ≡ cond before (run_at full.cores 0) (run_at rest.cores 0)
unfolding core_run
core_here n full rest c before e l =
    get_or-map-range_with_len (core_run n full rest) 0 (cores_for n) c c [] l (omega arith)
    ∙ ap (λ (b : Bool). cond b (run_at full.cores 0) (run_at rest.cores 0)) e

part_here : (n : ℕ) (full : HostFirstRun 8) (rest : HostFirstRun (n % 8)) (q : ℕ) (before : Bool)
    → ltb (q / 8) (n / 8) ≡ before → q < n
    → run_at (all_parts n full rest) q ≡ cond before (run_at full.parts (q % 8)) (run_at rest.parts (q % 8))
unfolding part_run
part_here n full rest q before e l =
    get_or-map-range_with_len (part_run n full rest) 0 n q q [] l (omega arith)
    ∙ ap (λ (b : Bool). cond b (run_at full.parts (q % 8)) (run_at rest.parts (q % 8))) e

full_copy : (n : ℕ) (full : HostFirstRun 8) (rest : HostFirstRun (n % 8)) (c : ℕ) → c < n / 8
    → IsCopy n (all_cores n full rest) (all_parts n full rest) c 8 full
full_copy n full rest c l = record {
  guests = omega arith;
  core = core_here n full rest c true (lt-ltb c (n / 8) l) (omega arith);
  each = λ q m e. part_here n full rest q true (lt-ltb (q / 8) (n / 8) (omega arith)) m;
}

rest_copy : (n : ℕ) (full : HostFirstRun 8) (rest : HostFirstRun (n % 8)) (c : ℕ) → n / 8 ≤ c → c < cores_for n
    → IsCopy n (all_cores n full rest) (all_parts n full rest) c (n % 8) rest
rest_copy n full rest c l m = record {
  guests = omega arith;
  core = core_here n full rest c false (le-ltb c (n / 8) l) m;
  each = λ q h e. part_here n full rest q false (le-ltb (q / 8) (n / 8) (omega arith)) h;
}

-- they are the first run of the host
core_runs_first : (n : ℕ) (full : HostFirstRun 8) (rest : HostFirstRun (n % 8)) (c : ℕ) → c < cores_for n
    → FirstServers (bulk_host n) (bulk_budgets n) bulk_slots (Core c) (get_or (bulk_supplies n) c [])
    (run_at (all_cores n full rest) c)
core_runs_first n full rest c l = elim (cases_lt c (n / 8)) [
  | inl before ↦ copy_runs n c 8 (all_cores n full rest) (all_parts n full rest) full l (full_copy n full rest c before)
  | inr last ↦
      copy_runs n c (n % 8) (all_cores n full rest) (all_parts n full rest) rest l (rest_copy n full rest c last l)
]

guest_runs_first : (n : ℕ) (full : HostFirstRun 8) (rest : HostFirstRun (n % 8)) (q : ℕ) → q < n
    → FirstLeaf (bulk_host n) q (jobs_at (bulk_jobs n) q)
    (supply_of (bulk_host n) (bulk_budgets n) bulk_slots (all_cores n full rest) (all_parts n full rest) q)
    (run_at (all_parts n full rest) q)
guest_runs_first n full rest q l = elim (cases_lt (q / 8) (n / 8)) [
  | inl before ↦
      copied_guest_runs n q 8 (all_cores n full rest) (all_parts n full rest) full l
      (full_copy n full rest (q / 8) before)
  | inr last ↦
      copied_guest_runs n q (n % 8) (all_cores n full rest) (all_parts n full rest) rest l
      (rest_copy n full rest (q / 8) last (omega arith))
]

all_first : (n : ℕ) (full : HostFirstRun 8) (rest : HostFirstRun (n % 8))
    → FirstTree (bulk_host n) (bulk_budgets n) bulk_slots (bulk_supplies n) (bulk_jobs n) (all_cores n full rest)
    (all_parts n full rest)
all_first n full rest = record {
  run_each_core = length-map-range_with_len (core_run n full rest) 0 (cores_for n) ∙ sym (cores-many n);
  run_each_part = length-map-range_with_len (part_run n full rest) 0 n ∙ sym (guests-many n);
  cores = λ c l. core_runs_first n full rest c (omega (arith, cores-many n));
  inner = λ q l e. absurd (true≢false (sym (leaf_here n q (omega (arith, guests-many n))) ∙ e));
  leaves = λ q l leaf. guest_runs_first n full rest q (omega (arith, guests-many n));
}

-- sums over the guests and over the cores of the host
guests_in_sum : (f g h : ℕ → ℕ) (n : ℕ) → ((q : ℕ) → q < n → q / 8 < n / 8 → f q ≡ g (q % 8))
    → ((q : ℕ) → q < n → n / 8 ≤ q / 8 → f q ≡ h (q % 8)) → sum_below f n ≡ n / 8 * sum_below g 8 + sum_below h (n % 8)
guests_in_sum f g h n full rest =
    ap (sum_below f) (let e : n ≡ 8 * (n / 8) + n % 8 = omega arith in e)
    ∙ in_blocks f g h 8 (n / 8) (n % 8)
    (λ c i l m. full (8 * c + i) (omega arith) (omega arith) ∙ ap g (let e : (8 * c + i) % 8 ≡ i = omega arith in e))
    (λ i l. rest (8 * (n / 8) + i) (omega arith) (omega arith)
    ∙ ap h (let e : (8 * (n / 8) + i) % 8 ≡ i = omega arith in e))

cores_in_sum : (f g h : ℕ → ℕ) (n : ℕ) → ((c : ℕ) → c < n / 8 → f c ≡ g 0)
    → ((c : ℕ) → n / 8 ≤ c → c < cores_for n → f c ≡ h 0) →
    sum_below f (length (bulk_host n).cores)
    ≡ n / 8 * sum_below g (length (bulk_host 8).cores) + sum_below h (length (bulk_host (n % 8)).cores)
cores_in_sum f g h n full rest =
    let blocks : sum_below f (1 * (n / 8) + cores_for (n % 8))
    ≡ n / 8 * sum_below g 1 + sum_below h (cores_for (n % 8))
    =
    in_blocks f g h 1 (n / 8) (cores_for (n % 8))
    (λ c i l m. full (1 * c + i) (omega arith) ∙ ap g (let e : 0 ≡ i = omega arith in e))
    (λ i l. rest (1 * (n / 8) + i) (omega arith) (omega arith) ∙ ap h (let e : 0 ≡ i = omega arith in e)) in
    let cores : length (bulk_host n).cores ≡ 1 * (n / 8) + cores_for (n % 8) = omega (arith, cores-many n) in
    omega (
      arith,
      blocks,
      ap (sum_below f) cores,
      ap (λ (z : ℕ). n / 8 * sum_below g z) (cores-many 8),
      ap (sum_below h) (cores-many (n % 8)),
    )

-- what is counted of the guests alone
budgets_in_sum : (n : ℕ) → sum (bulk_budgets n) ≡ n / 8 * sum (bulk_budgets 8) + sum (bulk_budgets (n % 8))
budgets_in_sum n =
    let split
    = guests_in_sum (budget_at (bulk_budgets n)) (budget_at (bulk_budgets 8)) (budget_at (bulk_budgets (n % 8))) n
    (λ q l m. budget_same n q 8 (q % 8) l (omega arith) (omega arith))
    (λ q l m. budget_same n q (n % 8) (q % 8) l (omega arith) (omega arith)) in
    omega (arith, split, budgets_by_guest n, budgets_by_guest (n % 8), ap (λ (z : ℕ). n / 8 * z) (budgets_by_guest 8))

jobs_in_sum : (n : ℕ)
    → sum_by (λ (jobs : List Job). length jobs) (bulk_jobs n)
    ≡ n / 8 * sum_by (λ (jobs : List Job). length jobs) (bulk_jobs 8)
    + sum_by (λ (jobs : List Job). length jobs) (bulk_jobs (n % 8))
jobs_in_sum n =
    let split
    = guests_in_sum (λ q. length (jobs_at (bulk_jobs n) q)) (λ q. length (jobs_at (bulk_jobs 8) q))
    (λ q. length (jobs_at (bulk_jobs (n % 8)) q)) n
    (λ q l m. ap (λ (js : List Job). length js) (jobs_same n q 8 (q % 8) l (omega arith) (omega arith)))
    (λ q l m. ap (λ (js : List Job). length js)
    (jobs_same n q (n % 8) (q % 8) l (omega arith) (omega arith))) in
    omega (arith, split, jobs_by_guest n, jobs_by_guest (n % 8), ap (λ (z : ℕ). n / 8 * z) (jobs_by_guest 8))

-- what is counted of the servers of each core
core_misses_in_sum : (n : ℕ) (full : HostFirstRun 8) (rest : HostFirstRun (n % 8)) →
    sum_below (core_misses n (bulk_budgets n) (all_cores n full rest)) (length (bulk_host n).cores)
    ≡ n / 8 * sum_below (core_misses 8 (bulk_budgets 8) full.cores) (length (bulk_host 8).cores)
    + sum_below (core_misses (n % 8) (bulk_budgets (n % 8)) rest.cores) (length (bulk_host (n % 8)).cores)
core_misses_in_sum n full rest =
    cores_in_sum (core_misses n (bulk_budgets n) (all_cores n full rest)) (core_misses 8 (bulk_budgets 8) full.cores)
    (core_misses (n % 8) (bulk_budgets (n % 8)) rest.cores) n
    (λ c l. copy_misses n c 8 (all_cores n full rest) (all_parts n full rest) full (omega arith)
    (full_copy n full rest c l))
    (λ c l m. copy_misses n c (n % 8) (all_cores n full rest) (all_parts n full rest) rest m
    (rest_copy n full rest c l m))

-- what is counted of each guest, where a copy has the count of what it copies
guests_counted : (count : ℕ → List (List (Option ℕ)) → ℕ → ℕ)
    → ((n q k : ℕ) (core_runs part_runs : List (List (Option ℕ))) (small : HostFirstRun k) → q < n
    → IsCopy n core_runs part_runs (q / 8) k small → count n part_runs q ≡ count k small.parts (q % 8)) →
    (n : ℕ) (full : HostFirstRun 8) (rest : HostFirstRun (n % 8)) →
    sum_below (count n (all_parts n full rest)) (length (bulk_host n).parts)
    ≡ n / 8 * sum_below (count 8 full.parts) (length (bulk_host 8).parts)
    + sum_below (count (n % 8) rest.parts) (length (bulk_host (n % 8)).parts)
guests_counted count same n full rest =
    let split =
    guests_in_sum (count n (all_parts n full rest)) (count 8 full.parts) (count (n % 8) rest.parts) n
    (λ q l m. same n q 8 (all_cores n full rest) (all_parts n full rest) full l (full_copy n full rest (q / 8) m))
    (λ q l m. same n q (n % 8) (all_cores n full rest) (all_parts n full rest) rest l
    (rest_copy n full rest (q / 8) m (omega arith))) in
    omega (
      arith,
      split,
      ap (sum_below (count n (all_parts n full rest))) (guests-many n),
      ap (λ (z : ℕ). n / 8 * sum_below (count 8 full.parts) z) (guests-many 8),
      ap (sum_below (count (n % 8) rest.parts)) (guests-many (n % 8)),
    )

-- the counts in these runs
two_sums : (k a b c d x y : ℕ) → x ≡ k * a + c → y ≡ k * b + d → k * (a + b) + (c + d) ≡ x + y
two_sums k a b c d x y e f = omega (arith, mul-add k a b)

counts_in_sum : (n : ℕ) (full : HostFirstRun 8) (rest : HostFirstRun (n % 8)) →
    plus (times (n / 8) (counts_in 8 (bulk_budgets 8) full.cores full.parts))
    (counts_in (n % 8) (bulk_budgets (n % 8)) rest.cores rest.parts)
    ≡ counts_in n (bulk_budgets n) (all_cores n full rest) (all_parts n full rest)
counts_in_sum n full rest =
    same_counts _ _ _ _ _ _ _ _ _ _ _ _ (omega arith)
    (omega (arith, cores-many n, cores-many (n % 8), ap (λ (z : ℕ). n / 8 * z) (cores-many 8)))
    (sym (budgets_in_sum n))
    (sym (jobs_in_sum n))
    (two_sums (n / 8) _ _ _ _ _ _ (core_misses_in_sum n full rest)
    (guests_counted guest_misses copied_guest_misses n full rest))
    (sym (guests_counted guest_pending copied_guest_pending n full rest))

pub host_of_cores : (n : ℕ) (full rest : BulkCounts) → AreHostCounts 8 full → AreHostCounts (n % 8) rest
    → AreHostCounts n (plus (times (n / 8) full) rest)
host_of_cores n full rest a b = record {
  run = record { cores = all_cores n a.run b.run; parts = all_parts n a.run b.run; first = all_first n a.run b.run };
  counted =
      ap (λ (x : BulkCounts). plus (times (n / 8) x) rest) a.counted
      ∙ (ap (plus (times (n / 8) (counts_in 8 (bulk_budgets 8) a.run.cores a.run.parts))) b.counted
      ∙ counts_in_sum n a.run b.run);
}

-- a host without guests has nothing to count
no_run : HostFirstRun 0
no_run = record {
  cores = [];
  parts = [];
  first = record {
    run_each_core = sym (cores-many 0);
    run_each_part = sym (guests-many 0);
    cores = λ c l. absurd (omega (arith, cores-many 0));
    inner = λ q l e. absurd (omega (arith, guests-many 0));
    leaves = λ q l e. absurd (omega (arith, guests-many 0));
  };
}

abbrev no_counts : BulkCounts
no_counts = record { guests = 0; cores = 0; budgets = 0; jobs = 0; missed = 0; pending = 0 }

nothing : AreHostCounts 0 no_counts
nothing = record {
  run = no_run;
  counted = same_counts _ _ _ _ _ _ _ _ _ _ _ _ refl (sym (cores-many 0))
      (sym (budgets_by_guest 0 ∙ sum_below-zero (budget_at (bulk_budgets 0))))
      (sym (jobs_by_guest 0 ∙ sum_below-zero (λ q. length (jobs_at (bulk_jobs 0) q))))
      (omega (arith, no_core (core_misses 0 (bulk_budgets 0) no_run.cores), no_guest (guest_misses 0 no_run.parts)))
      (sym (no_guest (guest_pending 0 no_run.parts)));
}
  where
    no_core : (f : ℕ → ℕ) → sum_below f (length (bulk_host 0).cores) ≡ 0
    no_core f = ap (sum_below f) (cores-many 0) ∙ sum_below-zero f

    no_guest : (f : ℕ → ℕ) → sum_below f (length (bulk_host 0).parts) ≡ 0
    no_guest f = ap (sum_below f) (guests-many 0) ∙ sum_below-zero f

pub host_of_full_cores : (n : ℕ) (full : BulkCounts) → n % 8 ≡ 0 → AreHostCounts 8 full
    → AreHostCounts n (times (n / 8) full)
host_of_full_cores n full none a =
    subst (AreHostCounts n) (same_counts _ _ _ _ _ _ _ _ _ _ _ _ (omega arith) (omega arith) (omega arith) (omega arith)
    (omega arith) (omega arith))
    (host_of_cores n full no_counts a (subst (λ (k : ℕ). AreHostCounts k no_counts) (sym none) nothing))

-- they are those under the budgets that admit the host
pub admitted_counts : (n : ℕ) → 1 ≤ n → n ≤ 256 → (counts : BulkCounts) → AreHostCounts n counts
    → AreBulkCounts n counts
admitted_counts n some few counts h =
    record {
      budgets = bulk_budgets n;
      admitted = host_is_admitted n some few;
      core_runs = h.run.cores;
      part_runs = h.run.parts;
      first = h.run.first;
      counted = h.counted;
    }
