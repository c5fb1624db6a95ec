-- What `bulk N` answers and means.
use Rattle.std.proofs.Common.{◌≡◌, ℕ, ◌≤◌, List, [], Option, refl, sym, ◌∙◌, ap, subst}
use Rattle.outside.specs.Files.{Files}
use Rattle.compose_tree.proofs.Sound.{admitted_no_loss}
use Rattle.bulk_host.specs.Host.{bulk_host}
use Rattle.bulk_host.proofs.Systems.{host_is_system}
use Rattle.bulk_run.specs.declared.counts.BulkCounts.{BulkCounts}
use Rattle.bulk_run.specs.Summary.{AreBulkCounts}
use Rattle.bulk_run.proofs.OneCount.{one_count}
use Rattle.bulk_run.proofs.NoMiss.{host_misses_none, none_is_counted}
use Rattle.rt_report.specs.Bulk.{bulk_text}
use Rattle.command_frame.specs.declared.status.Status.{Status}
use Rattle.command_frame.specs.declared.status.Status.TheVariants.{Yes}
use Rattle.command_frame.specs.Answer.{IsOne}
use Rattle.command_frame.specs.CommandSpec.{IsYes}
use Rattle.host_commands.specs.Bulk.{the_bulk, AnswersBulk, HostKeepsDeadlines}
use Rattle.command_frame.specs.Steps.{IsSaid}
use Rattle.command_frame.proofs.CommandLaws.{CommandLaws, no_contents}
use Rattle.command_frame.proofs.Statuses.{IsOfJob}

one_bulk : (n : ℕ) → IsOne (AnswersBulk n)
one_bulk n = λ s t x y a b. (
  a.is_yes ∙ sym b.is_yes,
  a.told
      ∙ (ap bulk_text (one_count n a.some a.most a.counts b.counts a.counted b.counted)
      ∙ sym b.told),
)

bulk_means : (n : ℕ) (status : Status) (text : List ℕ) → AnswersBulk n status text → HostKeepsDeadlines n
bulk_means n status text h =
    record {
      budgets = h.counted.budgets;
      admitted = h.counted.admitted;
      no_loss = admitted_no_loss (bulk_host n) (host_is_system n h.some h.most) h.counted.budgets h.counted.admitted;
      none_misses = host_misses_none n h.some h.most h.counted.budgets h.counted.admitted;
      none_counted = none_is_counted n h.some h.most;
    }

pub bulk_laws : (n : ℕ) → CommandLaws (the_bulk n)
bulk_laws n = record {
  one_answer = λ contents. one_bulk n;
  means = λ contents. bulk_means n;
  of_job = λ contents status text h. subst IsOfJob (sym h.is_yes) tt;
  verdict = λ contents status text can h. subst IsYes (sym h.is_yes) tt;
  no_memory = λ contents. tt;
  without_file = λ none contents status text h. h.is_yes;
}

-- a host that was counted has its answer
pub counted_answer : (n : ℕ) (files : Option Files) (counts : BulkCounts) (text : List ℕ) → 1 ≤ n → n ≤ 256
    → AreBulkCounts n counts → text ≡ bulk_text counts → IsSaid (the_bulk n) files Yes text
counted_answer n files counts text some most counted told = record {
  contents = [];
  held = no_contents files;
  answers = record { some = some; most = most; is_yes = refl; counts = counts; counted = counted; told = told };
}
