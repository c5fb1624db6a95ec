-- `tally FILE TRACE`: what it answers, which is that of `audit` and the counts behind it, and what
-- it means.
use Rattle.std.specs.Prelude.{◌≡◌, ℕ, ◌++◌, List, length}
use Rattle.slot_model.specs.Slots.{sum_below}
use Rattle.tree_model.specs.View.{SystemView}
use Rattle.trace_file.specs.declared.event.Event.{Event}
use Rattle.auditor.specs.declared.finding.Finding.{Finding}
use Rattle.auditor.specs.declared.finding.Finding.TheVariants.{Yes as Kept}
use Rattle.vcpu_watch.specs.declared.tally.Tally.{Tally}
use Rattle.auditor.specs.Finding.{IsFinding}
use Rattle.auditor.specs.Tally.{AreTallies, tally_at}
use Rattle.rt_report.specs.Audit.{audit_text}
use Rattle.rt_report.specs.Tally.{tally_lines, tally_text}
use Rattle.command_frame.specs.declared.status.Status.{Status}
use Rattle.command_frame.specs.declared.status.Status.TheVariants.{Yes}
use Rattle.command_frame.specs.CommandSpec.{CommandSpec}
use Rattle.command_frame.specs.Answer.{Contents, Saying}
use Rattle.command_frame.specs.OverFiles.{OnRead}
use Rattle.trace_commands.specs.Audit.{tracing, over_trace, OnEvents, finding_status, TellsSatisfied, TraceMeans}

-- the text tells the finding of an audit, and what is counted of each VCPU
pub record IsToldTally (sys : SystemView) (budgets : List ℕ) (events : List Event)
    (status : Status) (text : List ℕ) : Type 0 where
  pub finding : Finding
  pub found : IsFinding sys budgets events finding
  pub tallies : List Tally
  pub counted : AreTallies sys budgets events tallies
  pub status_is : status ≡ finding_status finding
  pub told : text ≡ tally_text sys budgets finding tallies

-- the answer to a system and the bytes of a trace
abbrev pub Tallies : SystemView → Saying
Tallies = OnRead tracing (OnEvents IsToldTally)

-- The text is that of an audit, and behind it what is counted of each VCPU. Yes and no mean what
-- they mean after `audit`; and on yes the periods that the second line counts are those that the
-- lines of the VCPUs tell as judged.
pub record TellsTally (sys : SystemView) (budgets : List ℕ) (events : List Event)
    (status : Status) (text : List ℕ) : Type 0 where
  pub satisfied : TellsSatisfied sys budgets events status
  pub finding : Finding
  pub found : IsFinding sys budgets events finding
  pub tallies : List Tally
  pub counted : AreTallies sys budgets events tallies
  pub told : text ≡ audit_text sys budgets finding ++ tally_lines sys 0 tallies
  pub on_yes : status ≡ Yes → let judged = sum_below (λ v. (tally_at tallies v).judged)
      (length sys.parts) in
      finding ≡ Kept judged

abbrev pub TallyMeans : Contents → Status → List ℕ → Type 0
TallyMeans = TraceMeans TellsTally

-- what there is to say of the command
abbrev pub the_tally : (file trace : List ℕ) → CommandSpec
the_tally = over_trace IsToldTally TallyMeans
