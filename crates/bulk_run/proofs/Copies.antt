-- A core of a generated host runs as the host of its guests alone does, whose one core it is.
use Rattle.std.proofs.Common.{◌≡◌, ℕ, ◌/◌, ◌%◌, ◌<◌, cond, eqb, List, [], get_or, Option, sym, ◌∙◌, ap, arith, subst}
use Rattle.slot_model.specs.declared.job.Job.{Job}
use Rattle.slot_model.specs.declared.sched.Sched.{Sched}
use Rattle.slot_model.specs.declared.sched.Sched.TheVariants.{Edf, Rm}
use Rattle.slot_model.specs.Task.{SporadicTask}
use Rattle.slot_model.specs.Release.{synchronous}
use Rattle.span_counts.specs.Pending.{pairs_pending}
use Rattle.tree_model.specs.declared.pinned_core.Core.{Core as CoreView}
use Rattle.tree_model.specs.declared.place.Place.TheVariants.{Core}
use Rattle.tree_model.specs.View.{PartView}
use Rattle.tree_model.specs.System.{part_at, own_tasks_at}
use Rattle.tree_model.specs.Tree.{place_of, node_sched, server_tasks, run_at, run_of, rank_among, supply_of, budget_at}
use Rattle.tree_model.specs.Releases.{jobs_at}
use Rattle.tree_model.specs.FirstTree.{FirstServers, FirstLeaf}
use Rattle.tree_model.proofs.SameNodes.{first_servers_same, first_leaf_same, slots_same}
use Rattle.bulk_host.specs.Host.{guest_period, cores_for, bulk_host, bulk_budgets}
use Rattle.bulk_host.proofs.LeafBudgets.{tasks_of}
use Rattle.bulk_host.proofs.Servers.{budget_here, guests_on, core_servers, rank_here, servers_here}
use Rattle.bulk_host.proofs.Systems.{core_here, guest_here, cores-many, guests-many}
use Rattle.bulk_run.specs.Summary.{bulk_slots, bulk_supplies, bulk_jobs, misses_in, core_misses, guest_misses, guest_pending}
use Rattle.bulk_run.specs.inner.Steps.{HostFirstRun}
use Rattle.bulk_run.proofs.HostRun.{leaf_here, own_here, jobs_here, supply_here}

-- core c of the host of n guests has as many guests as the host of k guests, and its run and those
-- of its guests are those of that host
pub record IsCopy (n : ℕ) (core_runs part_runs : List (List (Option ℕ))) (c k : ℕ) (small : HostFirstRun k) : Type 0
  where
    pub guests : guests_on n c ≡ k
    pub core : run_at core_runs c ≡ run_at small.cores 0
    pub each : (q : ℕ) → q < n → q / 8 ≡ c → run_at part_runs q ≡ run_at small.parts (q % 8)

-- guests at the same place of their cores
period_same : (q p : ℕ) → q % 8 ≡ p % 8 → guest_period q ≡ guest_period p
period_same q p e = omega arith

pub own_same : (n q k p : ℕ) → q < n → p < k → q % 8 ≡ p % 8
    → own_tasks_at (bulk_host n) q ≡ own_tasks_at (bulk_host k) p
own_same n q k p l m e = own_here n q l ∙ (ap tasks_of (period_same q p e) ∙ sym (own_here k p m))

pub jobs_same : (n q k p : ℕ) → q < n → p < k → q % 8 ≡ p % 8 → jobs_at (bulk_jobs n) q ≡ jobs_at (bulk_jobs k) p
jobs_same n q k p l m e =
    jobs_here n q l
    ∙ (ap (λ (ts : List SporadicTask). synchronous ts 0 bulk_slots) (own_same n q k p l m e) ∙ sym (jobs_here k p m))

sched_same : (n q k p : ℕ) → q < n → p < k → q % 8 ≡ p % 8
    → (part_at (bulk_host n) q).sched ≡ (part_at (bulk_host k) p).sched
sched_same n q k p l m e =
    ap (λ (part : PartView). part.sched) (guest_here n q l)
    ∙ (ap (λ (z : ℕ). cond {A = Sched} (eqb z 0) Edf Rm) (let two : q % 2 ≡ p % 2 = omega arith in two)
    ∙ sym (ap (λ (part : PartView). part.sched) (guest_here k p m)))

pub budget_same : (n q k p : ℕ) → q < n → p < k → q % 8 ≡ p % 8
    → budget_at (bulk_budgets n) q ≡ budget_at (bulk_budgets k) p
budget_same n q k p l m e = omega (arith, budget_here n q l, budget_here k p m)

-- cores of as many guests
servers_same : (n c k d : ℕ) → guests_on n c ≡ guests_on k d
    → server_tasks (bulk_host n) (bulk_budgets n) (Core c) ≡ server_tasks (bulk_host k) (bulk_budgets k) (Core d)
servers_same n c k d e = servers_here n c ∙ (ap core_servers e ∙ sym (servers_here k d))

core_sched : (n c : ℕ) → c < cores_for n → node_sched (bulk_host n) (Core c) ≡ Edf
core_sched n c l = ap (λ (core : CoreView). core.sched) (core_here n c l)

parent_here : (n q : ℕ) → q < n → place_of (part_at (bulk_host n) q).parent ≡ Core (q / 8)
parent_here n q l = ap (λ (part : PartView). place_of part.parent) (guest_here n q l)

-- a copy is a core of at most eight guests
first_core : (n c k : ℕ) → c < cores_for n → guests_on n c ≡ k → guests_on n c ≡ guests_on k 0
first_core n c k l e = omega arith

pub copy_runs : (n c k : ℕ) (core_runs part_runs : List (List (Option ℕ))) (small : HostFirstRun k) → c < cores_for n
    → IsCopy n core_runs part_runs c k small →
    FirstServers (bulk_host n) (bulk_budgets n) bulk_slots (Core c) (get_or (bulk_supplies n) c []) (run_at core_runs c)
copy_runs n c k core_runs part_runs small l copy =
    let one : 0 < cores_for k = omega (arith, copy.guests) in
    subst (λ (run : List (Option ℕ)). FirstServers (bulk_host n) (bulk_budgets n) bulk_slots (Core c)
    (get_or (bulk_supplies n) c []) run) (sym copy.core)
    (first_servers_same (bulk_host k) (bulk_host n) (bulk_budgets k) (bulk_budgets n) bulk_slots (Core 0) (Core c)
    (get_or (bulk_supplies k) 0 []) (get_or (bulk_supplies n) c []) (run_at small.cores 0)
    (core_sched k 0 one ∙ sym (core_sched n c l))
    (sym (servers_same n c k 0 (first_core n c k l copy.guests)))
    (supply_here k 0 one ∙ sym (supply_here n c l))
    (small.first.cores 0 (omega (arith, one, cores-many k))))

pub copied_guest_runs : (n q k : ℕ) (core_runs part_runs : List (List (Option ℕ))) (small : HostFirstRun k) → q < n
    → IsCopy n core_runs part_runs (q / 8) k small →
    FirstLeaf (bulk_host n) q (jobs_at (bulk_jobs n) q)
    (supply_of (bulk_host n) (bulk_budgets n) bulk_slots core_runs part_runs q) (run_at part_runs q)
copied_guest_runs n q k core_runs part_runs small l copy =
    let p : ℕ = q % 8 in
    let m : p < k = omega (arith, copy.guests) in
    let e : p % 8 ≡ q % 8 = omega arith in
    let none : p / 8 ≡ 0 = omega arith in
    let alike : guests_on k (p / 8) ≡ guests_on n (q / 8) = omega (arith, copy.guests) in
    let tasks : server_tasks (bulk_host k) (bulk_budgets k) (place_of (part_at (bulk_host k) p).parent)
    ≡ server_tasks (bulk_host n) (bulk_budgets n) (place_of (part_at (bulk_host n) q).parent)
    =
    ap (server_tasks (bulk_host k) (bulk_budgets k)) (parent_here k p m)
    ∙ (servers_same k (p / 8) n (q / 8) alike
    ∙ sym (ap (server_tasks (bulk_host n) (bulk_budgets n)) (parent_here n q l))) in
    let run : run_of small.cores small.parts (place_of (part_at (bulk_host k) p).parent)
    ≡ run_of core_runs part_runs (place_of (part_at (bulk_host n) q).parent)
    =
    ap (run_of small.cores small.parts) (parent_here k p m)
    ∙ (ap (run_at small.cores) none ∙ (sym copy.core ∙ sym (ap (run_of core_runs part_runs) (parent_here n q l))))
    in
    let rank : rank_among (bulk_host k) p ≡ rank_among (bulk_host n) q
    = omega (arith, rank_here k p m, rank_here n q l) in
    subst (λ (x : List (Option ℕ)). FirstLeaf (bulk_host n) q (jobs_at (bulk_jobs n) q)
    (supply_of (bulk_host n) (bulk_budgets n) bulk_slots core_runs part_runs q) x)
    (sym (copy.each q l (let here : q / 8 ≡ q / 8 = omega arith in here)))
    (first_leaf_same (bulk_host k) (bulk_host n) p q (jobs_at (bulk_jobs k) p) (jobs_at (bulk_jobs n) q)
    (supply_of (bulk_host k) (bulk_budgets k) bulk_slots small.cores small.parts p)
    (supply_of (bulk_host n) (bulk_budgets n) bulk_slots core_runs part_runs q) (run_at small.parts p)
    (sched_same k p n q m l e)
    (own_same k p n q m l e)
    (jobs_same k p n q m l e)
    (slots_same (bulk_host k) (bulk_host n) (bulk_budgets k) (bulk_budgets n) bulk_slots small.cores small.parts
    core_runs part_runs p q tasks run rank)
    (small.first.leaves p (omega (arith, m, guests-many k)) (leaf_here k p m)))

-- what is counted at its nodes
pub copy_misses : (n c k : ℕ) (core_runs part_runs : List (List (Option ℕ))) (small : HostFirstRun k) → c < cores_for n
    → IsCopy n core_runs part_runs c k small
    → core_misses n (bulk_budgets n) core_runs c ≡ core_misses k (bulk_budgets k) small.cores 0
copy_misses n c k core_runs part_runs small l copy =
    ap (λ (ts : List SporadicTask). misses_in ts (synchronous ts 0 bulk_slots) (run_at core_runs c))
    (servers_same n c k 0 (first_core n c k l copy.guests))
    ∙ ap (λ (run : List (Option ℕ)). misses_in (server_tasks (bulk_host k) (bulk_budgets k) (Core 0))
    (synchronous (server_tasks (bulk_host k) (bulk_budgets k) (Core 0)) 0 bulk_slots) run) copy.core

pub copied_guest_misses : (n q k : ℕ) (core_runs part_runs : List (List (Option ℕ))) (small : HostFirstRun k) → q < n
    → IsCopy n core_runs part_runs (q / 8) k small → guest_misses n part_runs q ≡ guest_misses k small.parts (q % 8)
copied_guest_misses n q k core_runs part_runs small l copy =
    let m : q % 8 < k = omega (arith, copy.guests) in
    let e : q % 8 ≡ (q % 8) % 8 = omega arith in
    ap (λ (ts : List SporadicTask). misses_in ts (jobs_at (bulk_jobs n) q) (run_at part_runs q))
    (own_same n q k (q % 8) l m e)
    ∙ (ap (λ (js : List Job). misses_in (own_tasks_at (bulk_host k) (q % 8)) js (run_at part_runs q))
    (jobs_same n q k (q % 8) l m e)
    ∙ ap
    (λ (run : List (Option ℕ)). misses_in (own_tasks_at (bulk_host k) (q % 8)) (jobs_at (bulk_jobs k) (q % 8)) run)
    (copy.each q l (let here : q / 8 ≡ q / 8 = omega arith in here)))

pub copied_guest_pending : (n q k : ℕ) (core_runs part_runs : List (List (Option ℕ))) (small : HostFirstRun k) → q < n
    → IsCopy n core_runs part_runs (q / 8) k small → guest_pending n part_runs q ≡ guest_pending k small.parts (q % 8)
copied_guest_pending n q k core_runs part_runs small l copy =
    ap (λ (js : List Job). pairs_pending js (run_at part_runs q)) (jobs_same n q k (q % 8) l
    (let m : q % 8 < k = omega (arith, copy.guests) in m) (let e : q % 8 ≡ (q % 8) % 8 = omega arith in e))
    ∙ ap (λ (run : List (Option ℕ)). pairs_pending (jobs_at (bulk_jobs k) (q % 8)) run)
    (copy.each q l (let here : q / 8 ≡ q / 8 = omega arith in here))
