-- What the private steps that count a generated host promise each other.
use Rattle.std.specs.Prelude.{◌≡◌, ℕ, ◌+◌, ◌*◌, ◌^◌, ◌<◌, ◌≤◌, List, length, Option}
use Rattle.slot_model.specs.declared.job.Job.{Job}
use Rattle.slot_model.specs.Task.{job_at}
use Rattle.slot_model.specs.Miss.{HoldsReleased}
use Rattle.guest_sched.specs.declared.spans.Span.{Span}
use Rattle.guest_sched.specs.Spans.{AreSpans, run_of}
use Rattle.tree_spans.specs.NodeView.{NodeView}
use Rattle.tree_model.specs.FirstTree.{FirstTree}
use Rattle.tree_model.specs.Releases.{jobs_at}
use Rattle.tree_spans.specs.TreeSpans.{node_at}
use Rattle.bulk_host.specs.Host.{bulk_host, bulk_budgets}
use Rattle.bulk_run.specs.declared.counts.BulkCounts.{BulkCounts}
use Rattle.bulk_run.specs.Summary.{bulk_slots, bulk_supplies, bulk_jobs, counts_in}

-- the spans of a guest's jobs, which are fewer than 2^32
pub record IsGuestRun (jobs : List Job) (spans : List Span) : Type 0 where
  pub few : length jobs < 2 ^ 32
  pub works : (j : ℕ) → j < length jobs → 1 ≤ (job_at jobs j).work
  pub released : HoldsReleased jobs (run_of spans)
  pub joined : AreSpans spans 100000
  pub long : length (run_of spans) ≡ 100000

-- one for each list of jobs
pub record AreGuestRuns (jobs : List (List Job)) (nodes : List NodeView) : Type 0 where
  pub one_each : length nodes ≡ length jobs
  pub each : (q : ℕ) → q < length jobs → IsGuestRun (jobs_at jobs q) (node_at nodes q).spans

-- a first run of the host of n guests, under its budgets
pub record HostFirstRun (n : ℕ) : Type 0 where
  pub cores : List (List (Option ℕ))
  pub parts : List (List (Option ℕ))
  pub first : FirstTree (bulk_host n) (bulk_budgets n) bulk_slots (bulk_supplies n) (bulk_jobs n)
      cores parts

-- the counts of the host of n guests in such a run
pub record AreHostCounts (n : ℕ) (counts : BulkCounts) : Type 0 where
  pub run : HostFirstRun n
  pub counted : counts ≡ counts_in n (bulk_budgets n) run.cores run.parts

-- each count is below a limit
pub record AreBelow (limit : ℕ) (counts : BulkCounts) : Type 0 where
  pub guests : counts.guests < limit
  pub cores : counts.cores < limit
  pub budgets : counts.budgets < limit
  pub jobs : counts.jobs < limit
  pub missed : counts.missed < limit
  pub pending : counts.pending < limit

-- the counts of so many hosts that are counted alike, and those of two hosts together
abbrev pub times : ℕ → BulkCounts → BulkCounts
times k counts =
    record {
      guests = k * counts.guests;
      cores = k * counts.cores;
      budgets = k * counts.budgets;
      jobs = k * counts.jobs;
      missed = k * counts.missed;
      pending = k * counts.pending;
    }

abbrev pub plus : BulkCounts → BulkCounts → BulkCounts
plus counts more =
    record {
      guests = counts.guests + more.guests;
      cores = counts.cores + more.cores;
      budgets = counts.budgets + more.budgets;
      jobs = counts.jobs + more.jobs;
      missed = counts.missed + more.missed;
      pending = counts.pending + more.pending;
    }
