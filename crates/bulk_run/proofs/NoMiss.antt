-- No job misses in the first run of a tree under budgets that admit it, and so none in that of a
-- generated host.
use Rattle.std.proofs.Common.{◌≡◌, ℕ, ◌<◌, ◌≤◌, Bool, false, List, [], length, get_or, Option, None, refl, sym, ◌∙◌, ap, arith, subst}
use Rattle.std.proofs.lemmas.List.{length-map}
use Rattle.std.proofs.lemmas.List.FromFn.{get_or-map-range_with_len, length-map-range_with_len}
use Rattle.slot_model.specs.declared.job.Job.{Job}
use Rattle.slot_model.specs.Slots.{sum_below}
use Rattle.slot_model.specs.Supply.{IsFull}
use Rattle.slot_model.specs.Task.{SporadicTask, AreConstrained, job_at, deadline_of}
use Rattle.slot_model.specs.Release.{LegalRelease}
use Rattle.slot_model.specs.Miss.{Lost, NoneMissed}
use Rattle.slot_model.proofs.MissedJobs.{missed_is_lost, early_in_deadline, zero_where_none}
use Rattle.slot_model.proofs.Synchronous.{legal_synchronous}
use Rattle.slot_model.proofs.Sums.{sum_below-same, sum_below-none}
use Rattle.tree_model.specs.declared.pinned_core.Core.{Core as CoreView}
use Rattle.tree_model.specs.declared.place.Place.{Place}
use Rattle.tree_model.specs.declared.place.Place.TheVariants.{Core, Part}
use Rattle.tree_model.specs.View.{SystemView}
use Rattle.tree_model.specs.System.{IsSystem, core_at, own_tasks_at}
use Rattle.tree_model.specs.Tree.{CoreConforms, server_tasks, server_jobs, started_jobs, run_at, TreeInputs, NothingLost}
use Rattle.tree_model.specs.FirstTree.{FirstTree}
use Rattle.tree_model.specs.Admission.{Admitted}
use Rattle.tree_model.proofs.Parents.{servers_constrained, leaf_constrained}
use Rattle.tree_model.proofs.InRange.{InPeriod, admitted_in_period}
use Rattle.tree_model.proofs.FirstTrees.{first_tree_permitted}
use Rattle.tree_model.proofs.StartedTrees.{jobs_at_zero, started_of_permitted}
use Rattle.compose_tree.proofs.Sound.{admitted_no_loss}
use Rattle.server_sched.specs.declared.supplies.Pattern.TheVariants.{Early}
use Rattle.server_sched.specs.Patterns.{pattern_slot, pattern_slots}
use Rattle.tree_spans.specs.TreeCounts.{NoneMisses}
use Rattle.bulk_host.specs.Host.{cores_for, bulk_host}
use Rattle.bulk_host.proofs.Systems.{core_here, cores-many, guests-many, host_is_system}
use Rattle.bulk_run.specs.declared.counts.BulkCounts.{BulkCounts}
use Rattle.bulk_run.specs.Summary.{bulk_slots, bulk_supplies, bulk_jobs, core_misses, guest_misses, AreBulkCounts}
use Rattle.bulk_run.proofs.HostRun.{leaf_here, host_releases, supply_here, supply_long}

-- a run in which no job is lost misses none
none_missed : (tasks : List SporadicTask) (jobs : List Job) (run : List (Option ℕ)) → AreConstrained tasks
    → LegalRelease tasks jobs → ((j x : ℕ) → Lost tasks jobs run j x → ⊥) → NoneMissed tasks jobs run
none_missed tasks jobs run fits legal none =
    λ j miss. none j (deadline_of tasks (job_at jobs j))
    (missed_is_lost tasks jobs run j (early_in_deadline tasks jobs fits legal j miss.is_job) miss)

servers_miss_none : (sys : SystemView) (budgets : List ℕ) (node : Place) (n : ℕ) (run : List (Option ℕ))
    → AreConstrained (server_tasks sys budgets node)
    → ((j x : ℕ) → Lost (server_tasks sys budgets node) (started_jobs sys budgets [] node n) run j x → ⊥)
    → NoneMissed (server_tasks sys budgets node) (server_jobs sys budgets node n) run
servers_miss_none sys budgets node n run fits none =
    none_missed (server_tasks sys budgets node) (server_jobs sys budgets node n) run fits
    (legal_synchronous (server_tasks sys budgets node) fits 0 n)
    (subst (λ (jobs : List Job). (j x : ℕ) → Lost (server_tasks sys budgets node) jobs run j x → ⊥)
    (jobs_at_zero sys budgets [] node n (λ q. refl)) none)

-- the first run of a tree is permitted, so nothing is lost in it
pub first_run_misses_none : (sys : SystemView) → IsSystem sys → (budgets : List ℕ) → Admitted sys budgets
    → (n : ℕ) (supplies : List (List Bool)) (jobs : List (List Job)) (core_runs part_runs : List (List (Option ℕ)))
    → TreeInputs sys n supplies jobs → FirstTree sys budgets n supplies jobs core_runs part_runs
    → NoneMisses sys budgets n jobs core_runs part_runs
first_run_misses_none sys is budgets admitted n supplies jobs core_runs part_runs inputs first =
    let range : (q : ℕ) → q < length sys.parts → InPeriod sys budgets q = admitted_in_period sys is budgets admitted in
    let kept : NothingLost sys budgets [] n jobs core_runs part_runs =
    (admitted_no_loss sys is budgets admitted).keeps [] n supplies jobs core_runs part_runs inputs
    (started_of_permitted sys budgets [] n supplies jobs core_runs part_runs (λ q. refl)
    (first_tree_permitted sys budgets n supplies jobs core_runs part_runs first)) in
    record {
      cores =
          λ c l. servers_miss_none sys budgets (Core c) n (run_at core_runs c)
          (servers_constrained sys budgets (Core c) (λ q i child. range q i)) (kept.cores c l);
      inner =
          λ q l inner. servers_miss_none sys budgets (Part q) n (run_at part_runs q)
          (servers_constrained sys budgets (Part q) (λ r i child. range r i)) (kept.inner q l inner);
      leaves =
          λ q l leaf. none_missed (own_tasks_at sys q) (get_or jobs q []) (run_at part_runs q)
          (leaf_constrained sys is q l) (inputs.releases q l leaf) (kept.leaves q l leaf);
    }

-- the inputs of a generated host: every slot of each core, and a legal release
all_given : (n : ℕ) → IsFull (pattern_slots Early None n)
all_given n x l =
    get_or-map-range_with_len (pattern_slot Early None) 0 n x x false
    (omega (arith, l, length-map-range_with_len (pattern_slot Early None) 0 n)) (omega arith)

conforms_here : (n c : ℕ) → c < cores_for n
    → CoreConforms (core_at (bulk_host n) c).supply (get_or (bulk_supplies n) c [])
conforms_here n c l =
    subst (λ (core : CoreView). CoreConforms core.supply (get_or (bulk_supplies n) c [])) (sym (core_here n c l))
    (subst IsFull (sym (supply_here n c l)) (all_given bulk_slots))

host_inputs : (n : ℕ) → TreeInputs (bulk_host n) bulk_slots (bulk_supplies n) (bulk_jobs n)
host_inputs n = record {
  supply_each_core = length-map (bulk_host n).cores (λ (core : CoreView). pattern_slots Early core.supply bulk_slots);
  long = λ c l. supply_long n c (omega (arith, l, cores-many n));
  conforms = λ c l. conforms_here n c (omega (arith, l, cores-many n));
  jobs_each_part = (host_releases n).one_each;
  releases = λ q l leaf. (host_releases n).legal q l leaf;
  none_inner = λ q l inner. (host_releases n).none q l inner;
}

-- so no job of a generated host misses, and none is counted
pub host_misses_none : (n : ℕ) → 1 ≤ n → n ≤ 256 → (budgets : List ℕ) → Admitted (bulk_host n) budgets
    → (core_runs part_runs : List (List (Option ℕ))) →
    FirstTree (bulk_host n) budgets bulk_slots (bulk_supplies n) (bulk_jobs n) core_runs part_runs
    → NoneMisses (bulk_host n) budgets bulk_slots (bulk_jobs n) core_runs part_runs
host_misses_none n some few budgets admitted core_runs part_runs first =
    first_run_misses_none (bulk_host n) (host_is_system n some few) budgets admitted bulk_slots (bulk_supplies n)
    (bulk_jobs n) core_runs part_runs (host_inputs n) first

all_zero : (f : ℕ → ℕ) (n : ℕ) → ((x : ℕ) → x < n → f x ≡ 0) → sum_below f n ≡ 0
all_zero f n zeros = sum_below-same f (λ x. 0) n zeros ∙ sum_below-none n

pub none_is_counted : (n : ℕ) → 1 ≤ n → n ≤ 256 → (counts : BulkCounts) → AreBulkCounts n counts → counts.missed ≡ 0
none_is_counted n some few counts h =
    let none : NoneMisses (bulk_host n) h.budgets bulk_slots (bulk_jobs n) h.core_runs h.part_runs
    = host_misses_none n some few h.budgets h.admitted h.core_runs h.part_runs h.first in
    let at_cores : sum_below (core_misses n h.budgets h.core_runs) (length (bulk_host n).cores) ≡ 0
    = all_zero (core_misses n h.budgets h.core_runs) (length (bulk_host n).cores)
    (λ c l. zero_where_none _ _ _ (none.cores c l)) in
    let at_guests : sum_below (guest_misses n h.part_runs) (length (bulk_host n).parts) ≡ 0
    = all_zero (guest_misses n h.part_runs) (length (bulk_host n).parts)
    (λ q l. zero_where_none _ _ _ (none.leaves q l (leaf_here n q (omega (arith, l, guests-many n))))) in
    ap (λ (c : BulkCounts). c.missed) h.counted ∙ omega (arith, at_cores, at_guests)
