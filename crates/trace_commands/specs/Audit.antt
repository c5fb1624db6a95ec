-- `audit FILE TRACE`: what it answers, and what its yes means to who recorded the trace.
use Rattle.std.specs.Prelude.{◌≡◌, ℕ, List}
use Rattle.csv_rows.specs.Reading.{records_of}
use Rattle.tree_model.specs.View.{SystemView}
use Rattle.tree_model.specs.Admission.{Assigned}
use Rattle.trace_file.specs.declared.event.Event.{Event}
use Rattle.trace_file.specs.declared.fault.TraceFault.{TraceFault}
use Rattle.trace_file.specs.File.{Spells, IsFileFault, rows_of}
use Rattle.trace_file.specs.Periods.{Satisfied}
use Rattle.auditor.specs.declared.finding.Finding.{Finding}
use Rattle.auditor.specs.declared.finding.Finding.TheVariants.{Yes as Kept, Short, Over}
use Rattle.auditor.specs.Finding.{IsFinding}
use Rattle.rt_report.specs.declared.fault.FileFault.TheVariants.{Trace}
use Rattle.rt_report.specs.Audit.{audit_text}
use Rattle.command_frame.specs.declared.status.Status.{Status}
use Rattle.command_frame.specs.declared.status.Status.TheVariants.{Yes, No}
use Rattle.command_frame.specs.CommandSpec.{CommandSpec, IsVerdict}
use Rattle.command_frame.specs.Answer.{Contents, IfNo, IfSystem, Saying}
use Rattle.command_frame.specs.Attempt.{Attempt}
use Rattle.command_frame.specs.Budgets.{OnAssigned, AssignedOrNone}
use Rattle.command_frame.specs.OverFiles.{OnRead, over_pair}
use Rattle.command_frame.specs.SecondFile.{reading_as}
use Rattle.command_frame.specs.TwoFiles.{SpellsSystem}

-- the bytes of the second file spell events, or have a first fault
abbrev pub tracing : SystemView → List ℕ → Attempt (List Event) TraceFault
tracing sys bytes =
    reading_as Trace (Spells sys (records_of bytes)) (IsFileFault sys (rows_of (records_of bytes)))

-- yes where nothing is found
abbrev pub finding_status : Finding → Status
finding_status (Kept periods) = Yes
finding_status (Short v from got) = No
finding_status (Over v from got) = No

-- the text tells the finding: the number of judged periods, or the first broken one
pub record IsAudited (sys : SystemView) (budgets : List ℕ) (events : List Event) (status : Status)
    (text : List ℕ) : Type 0 where
  pub finding : Finding
  pub found : IsFinding sys budgets events finding
  pub status_is : status ≡ finding_status finding
  pub told : text ≡ audit_text sys budgets finding

-- the answer to a system and events, where this is said of the budgets that are assigned
abbrev pub OnEvents : (SystemView → List ℕ → List Event → Status → List ℕ → Type 0)
    → SystemView → List Event → Status → List ℕ → Type 0
OnEvents Says sys events = OnAssigned sys (λ budgets. Says sys budgets events)

-- the answer to a system and the bytes of a trace
abbrev pub Audits : SystemView → Saying
Audits = OnRead tracing (OnEvents IsAudited)

-- the files spell this system and these events, and these budgets are assigned to it
pub record IsAuditOf (contents : Contents) (sys : SystemView) (budgets : List ℕ)
    (events : List Event) : Type 0 where
  pub spelled : SpellsSystem contents sys (λ bytes. Spells sys (records_of bytes) events)
  pub assigned : Assigned sys budgets

-- Yes means: the trace gives each VCPU its budget in every period throughout which it could run,
-- and never more without extra time. Where it does, the answer is yes.
pub record TellsSatisfied (sys : SystemView) (budgets : List ℕ) (events : List Event)
    (status : Status) : Type 0 where
  pub only : status ≡ Yes → Satisfied sys budgets events
  pub always : Satisfied sys budgets events → status ≡ Yes

-- what an answer to a trace means, where under the budgets it tells this: no also means that there
-- are budgets, or that the first part that has none is told
pub record TraceMeans (Tells : SystemView → List ℕ → List Event → Status → List ℕ → Type 0)
    (contents : Contents) (status : Status) (text : List ℕ) : Type 0 where
  pub tells : (sys : SystemView) (budgets : List ℕ) (events : List Event)
      → IsAuditOf contents sys budgets events → Tells sys budgets events status text
  pub unassigned : IfSystem contents (λ sys. IfNo status (AssignedOrNone sys text))

abbrev pub AuditMeans : Contents → Status → List ℕ → Type 0
AuditMeans =
    TraceMeans (λ sys budgets events status text. TellsSatisfied sys budgets events status)

-- what there is to say of a command over a trace, and of this one
abbrev pub over_trace : (SystemView → List ℕ → List Event → Status → List ℕ → Type 0)
    → (Contents → Status → List ℕ → Type 0) → (file trace : List ℕ) → CommandSpec
over_trace Says Means = over_pair tracing (OnEvents Says) Means (λ contents. IsVerdict)

abbrev pub the_audit : (file trace : List ℕ) → CommandSpec
the_audit = over_trace IsAudited AuditMeans
