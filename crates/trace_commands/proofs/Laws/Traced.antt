-- What a command answers that audits a trace, whatever it tells of it: one thing, its statuses, and
-- what it means.
use Rattle.std.proofs.Common.{◌≡◌, ◌⊎◌, ℕ, List, refl, sym, subst, inl, inr}
use Rattle.csv_rows.specs.Reading.{records_of}
use Rattle.tree_model.specs.View.{SystemView}
use Rattle.tree_model.specs.System.{IsSystem}
use Rattle.tree_model.specs.Plans.{IsPlan}
use Rattle.tree_model.proofs.InRange.{assigned_is_plan}
use Rattle.trace_file.specs.declared.event.Event.{Event}
use Rattle.trace_file.specs.File.{rows_of}
use Rattle.trace_file.proofs.Same.{same_events, no_fault, one_file_fault}
use Rattle.auditor.specs.declared.finding.Finding.{Finding}
use Rattle.auditor.specs.declared.finding.Finding.TheVariants.{Yes as Kept, Short, Over}
use Rattle.auditor.specs.Finding.{IsFinding}
use Rattle.command_frame.specs.declared.status.Status.{Status}
use Rattle.command_frame.specs.declared.status.Status.TheVariants.{Yes, No, Wide}
use Rattle.command_frame.specs.Answer.{Contents, IsOne}
use Rattle.command_frame.specs.Budgets.{AssignedOrNone}
use Rattle.command_frame.specs.CommandSpec.{IsVerdict}
use Rattle.command_frame.specs.Steps.{IsJudged}
use Rattle.command_frame.specs.OverFiles.{OnRead}
use Rattle.command_frame.specs.TwoFiles.{OnTwoFiles}
use Rattle.command_frame.proofs.Attempt.{IsDecided}
use Rattle.command_frame.proofs.Budgets.{no_of_assigned, one_assigned, said_of_assigned, statuses_assigned}
use Rattle.command_frame.proofs.CommandLaws.{CommandLaws}
use Rattle.command_frame.proofs.ReadSecond.{JudgesRead, is_spelled_system, no_of_read, read_laws, said_of_read}
use Rattle.trace_commands.specs.Audit.{tracing, finding_status, over_trace, IsAuditOf, OnEvents, TellsSatisfied, TraceMeans}

pub tracing_decided : (sys : SystemView) (bytes : List ℕ) → IsDecided (tracing sys bytes)
tracing_decided sys bytes = record {
  one_value = same_events sys (records_of bytes);
  never_both = no_fault sys (records_of bytes);
  one_refusal = one_file_fault sys (rows_of (records_of bytes));
}

yes_or_no : (P : Status → Type 0) → P Yes → P No → (status : Status) → (status ≡ Yes) ⊎ (status ≡ No) → P status
yes_or_no P at_yes at_no status is =
    elim is [ inl so ↦ subst P (sym so) at_yes | inr so ↦ subst P (sym so) at_no ]

pub finding_is : (finding : Finding) → (finding_status finding ≡ Yes) ⊎ (finding_status finding ≡ No)
finding_is (Kept periods) = inl refl
finding_is (Short v from got) = inr refl
finding_is (Over v from got) = inr refl

pub finding_tells : (sys : SystemView) (budgets : List ℕ) (events : List Event) (finding : Finding)
    → IsFinding sys budgets events finding → TellsSatisfied sys budgets events (finding_status finding)
finding_tells sys budgets events (Kept periods) found = record { only = λ told. found.0; always = λ satisfied. refl }
finding_tells sys budgets events (Short v from got) found =
    record {
      only = λ told. absurd (cc);
      always = λ satisfied. absurd (satisfied v found.start found.period (inl found.short));
    }
finding_tells sys budgets events (Over v from got) found =
    record
    { only = λ told. absurd (cc); always = λ satisfied. absurd (satisfied v found.start found.period (inr found.over)) }

-- what is said of a trace under budgets is one thing, is yes or no, and means this
pub record TellsTrace (Says Tells : SystemView → List ℕ → List Event → Status → List ℕ → Type 0) : Type 0 where
  pub one : (sys : SystemView) (budgets : List ℕ) (events : List Event) → IsOne (Says sys budgets events)
  pub status : (sys : SystemView) (budgets : List ℕ) (events : List Event) (status : Status) (text : List ℕ)
      → Says sys budgets events status text → (status ≡ Yes) ⊎ (status ≡ No)
  pub means : (sys : SystemView) → IsSystem sys
      → (budgets : List ℕ) → IsPlan sys budgets → (events : List Event) (status : Status) (text : List ℕ)
      → Says sys budgets events status text → Tells sys budgets events status text

module _ (Says Tells : SystemView → List ℕ → List Event → Status → List ℕ → Type 0) (told : TellsTrace Says Tells) where
  events_status : (P : Status → Type 0) → P Yes → P No → P Wide
      → (sys : SystemView) (events : List Event) (status : Status) (text : List ℕ)
      → OnEvents Says sys events status text → P status
  events_status P at_yes at_no at_wide sys events status text h =
      statuses_assigned P at_no at_wide sys (λ budgets. Says sys budgets events) status text
      (λ budgets said. yes_or_no P at_yes at_no status (told.status sys budgets events status text said)) h

  reads : JudgesRead tracing (OnEvents Says)
  reads = record {
    decided = tracing_decided;
    bad_file = λ sys bytes fault. refl;
    one =
        λ sys is events. one_assigned sys is (λ budgets. Says sys budgets events)
        (λ budgets. told.one sys budgets events);
    judged = λ sys events. events_status IsJudged tt tt tt sys events;
  }

  tells_trace : (contents : Contents) (status : Status) (text : List ℕ)
      → OnTwoFiles contents (OnRead tracing (OnEvents Says)) status text
      → (sys : SystemView) (budgets : List ℕ) (events : List Event)
      → IsAuditOf contents sys budgets events → Tells sys budgets events status text
  tells_trace contents status text h = λ sys budgets events of.
      let is : IsSystem sys = is_spelled_system contents sys _ of.spelled in
      told.means sys is budgets (assigned_is_plan sys is budgets of.assigned) events status text
      (said_of_assigned sys is (λ b. Says sys b events) status text budgets of.assigned
      (said_of_read tracing (OnEvents Says) reads contents sys events status text of.spelled h))

  means_trace : (contents : Contents) (status : Status) (text : List ℕ)
      → OnTwoFiles contents (OnRead tracing (OnEvents Says)) status text → TraceMeans Tells contents status text
  means_trace contents status text h = record {
    tells = tells_trace contents status text h;
    unassigned =
        no_of_read tracing (OnEvents Says) reads AssignedOrNone
        (λ sys is events s t. no_of_assigned sys is (λ budgets. Says sys budgets events) s t) contents status text h;
  }

  pub trace_laws : (file trace : List ℕ) → CommandLaws (over_trace Says (TraceMeans Tells) file trace)
  trace_laws file trace =
      read_laws file trace tracing (OnEvents Says) (TraceMeans Tells) (λ contents. IsVerdict) reads (record {
        means = means_trace;
        verdict = λ contents sys spelled events. events_status IsVerdict tt tt tt sys events;
        no_memory = λ contents. tt;
      })
