-- What is counted of a generated host: of the one first run of its tree, in which every core has
-- every slot and every task of a guest releases a job of full work once a period.
use Rattle.std.specs.Prelude.{◌≡◌, ℕ, ◌+◌, Bool, List, length, sum, sum_by, Option}
use Rattle.slot_model.specs.declared.job.Job.{Job}
use Rattle.slot_model.specs.Slots.{count_below, sum_below}
use Rattle.slot_model.specs.Task.{SporadicTask}
use Rattle.slot_model.specs.Miss.{is_missed}
use Rattle.span_counts.specs.Pending.{pairs_pending}
use Rattle.tree_model.specs.declared.place.Place.TheVariants.{Core}
use Rattle.tree_model.specs.System.{own_tasks_at}
use Rattle.tree_model.specs.Tree.{server_tasks, server_jobs, run_at}
use Rattle.tree_model.specs.FirstTree.{FirstTree}
use Rattle.tree_model.specs.Admission.{Admitted}
use Rattle.server_sched.specs.declared.supplies.Pattern.TheVariants.{Early}
use Rattle.server_sched.specs.Patterns.{pattern_supplies}
use Rattle.tree_model.specs.Releases.{jobs_at}
use Rattle.bulk_host.specs.Host.{bulk_host, full_jobs}
use Rattle.bulk_run.specs.declared.counts.BulkCounts.{BulkCounts}

-- the slots of the run, the slots of each core (a full core has every slot, whatever the pattern),
-- and the jobs of each guest
abbrev pub bulk_slots : ℕ
bulk_slots = 100000

abbrev pub bulk_supplies : ℕ → List (List Bool)
bulk_supplies n = pattern_supplies (bulk_host n) Early bulk_slots

abbrev pub bulk_jobs : ℕ → List (List Job)
bulk_jobs n = full_jobs (bulk_host n) bulk_slots

-- how many jobs miss in a run
abbrev pub misses_in : List SporadicTask → List Job → List (Option ℕ) → ℕ
misses_in tasks jobs run = count_below (is_missed tasks jobs run) (length jobs)

-- the servers' jobs that miss at a core, and a guest's own
abbrev pub core_misses : ℕ → List ℕ → List (List (Option ℕ)) → ℕ → ℕ
core_misses n budgets core_runs c =
    misses_in (server_tasks (bulk_host n) budgets (Core c))
    (server_jobs (bulk_host n) budgets (Core c) bulk_slots) (run_at core_runs c)

abbrev pub guest_misses : ℕ → List (List (Option ℕ)) → ℕ → ℕ
guest_misses n part_runs q =
    misses_in (own_tasks_at (bulk_host n) q) (jobs_at (bulk_jobs n) q) (run_at part_runs q)

-- the pairs of a job of guest q and a slot at which it is pending
abbrev pub guest_pending : ℕ → List (List (Option ℕ)) → ℕ → ℕ
guest_pending n part_runs q = pairs_pending (jobs_at (bulk_jobs n) q) (run_at part_runs q)

-- what is counted under these budgets in these runs of the cores and the guests
abbrev pub counts_in : ℕ → List ℕ → List (List (Option ℕ)) → List (List (Option ℕ)) → BulkCounts
counts_in n budgets core_runs part_runs =
    record {
      guests = n;
      cores = length (bulk_host n).cores;
      budgets = sum budgets;
      jobs = sum_by (λ (jobs : List Job). length jobs) (bulk_jobs n);
      missed = sum_below (core_misses n budgets core_runs) (length (bulk_host n).cores)
          + sum_below (guest_misses n part_runs) (length (bulk_host n).parts);
      pending = sum_below (guest_pending n part_runs) (length (bulk_host n).parts);
    }

-- the counts of the host of n guests: under the budgets that admit it, in the one first run of
-- its tree
pub record AreBulkCounts (n : ℕ) (counts : BulkCounts) : Type 0 where
  pub budgets : List ℕ
  pub admitted : Admitted (bulk_host n) budgets
  pub core_runs : List (List (Option ℕ))
  pub part_runs : List (List (Option ℕ))
  pub first : FirstTree (bulk_host n) budgets bulk_slots (bulk_supplies n) (bulk_jobs n) core_runs
      part_runs
  pub counted : counts ≡ counts_in n budgets core_runs part_runs
