-- `bulk N`: what it answers, and what that means.
use Rattle.std.specs.Prelude.{◌≡◌, ℕ, ◌≤◌, List, [], Option, ⊤}
use Rattle.tree_model.specs.Tree.{NoLoss}
use Rattle.tree_model.specs.FirstTree.{FirstTree}
use Rattle.tree_model.specs.Admission.{Admitted}
use Rattle.tree_spans.specs.TreeCounts.{NoneMisses}
use Rattle.bulk_host.specs.Host.{bulk_host}
use Rattle.bulk_run.specs.declared.counts.BulkCounts.{BulkCounts}
use Rattle.bulk_run.specs.Summary.{bulk_slots, bulk_supplies, bulk_jobs, AreBulkCounts}
use Rattle.rt_report.specs.Bulk.{bulk_text}
use Rattle.command_frame.specs.declared.status.Status.{Status}
use Rattle.command_frame.specs.declared.status.Status.TheVariants.{Yes}
use Rattle.command_frame.specs.CommandSpec.{CommandSpec, IsYes}

-- the answer is yes, always: the text tells the counts of the host of n guests, 1 to 256
pub record AnswersBulk (n : ℕ) (status : Status) (text : List ℕ) : Type 0 where
  pub some : 1 ≤ n
  pub most : n ≤ 256
  pub is_yes : status ≡ Yes
  pub counts : BulkCounts
  pub counted : AreBulkCounts n counts
  pub told : text ≡ bulk_text counts

-- it means: budgets admit the host, and under them no job is lost in any permitted run, whenever
-- each server begins; so no job of any core or guest misses in the one first run that is counted,
-- and the count of misses is 0
pub record HostKeepsDeadlines (n : ℕ) : Type 0 where
  pub budgets : List ℕ
  pub admitted : Admitted (bulk_host n) budgets
  pub no_loss : NoLoss (bulk_host n) budgets
  pub none_misses : (core_runs part_runs : List (List (Option ℕ))) →
      FirstTree (bulk_host n) budgets bulk_slots (bulk_supplies n) (bulk_jobs n) core_runs
      part_runs →
      NoneMisses (bulk_host n) budgets bulk_slots (bulk_jobs n) core_runs part_runs
  pub none_counted : (counts : BulkCounts) → AreBulkCounts n counts → counts.missed ≡ 0

-- what there is to say of the command
abbrev pub the_bulk : ℕ → CommandSpec
the_bulk guests = record {
  files = [];
  Answers = λ contents. AnswersBulk guests;
  Means = λ contents status text. HostKeepsDeadlines guests;
  CanJudge = λ contents. ⊤;
  EndsAs = λ contents. IsYes;
}
