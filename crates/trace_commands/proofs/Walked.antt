-- From a trace that was taken piece by piece to what is answered.
use Rattle.std.proofs.Common.{◌≡◌, ◌⊎◌, ℕ, ◌++◌, List, Result, Ok, Err, sym, ◌∙◌, subst, inl, inr}
use Rattle.std.specs.Prelude.{IfErr, OnOk}
use Rattle.csv_rows.specs.Reading.{records_of}
use Rattle.outside.specs.Taker.{Took}
use Rattle.tree_model.specs.View.{SystemView}
use Rattle.trace_file.specs.declared.check.TraceCheck.{TraceCheck}
use Rattle.trace_file.specs.declared.event.Event.{Event}
use Rattle.trace_file.specs.declared.fault.TraceFault.{TraceFault}
use Rattle.trace_file.specs.declared.fault.TraceFault.TheVariants.{NoMemory as TraceNoMemory}
use Rattle.trace_file.specs.Fed.{HasChecked}
use Rattle.trace_file.specs.File.{IsFileFault, Spells, rows_of}
use Rattle.auditor.specs.declared.finding.Finding.{Finding}
use Rattle.auditor.specs.declared.finding.Finding.TheVariants.{Yes as Kept, Short, Over}
use Rattle.auditor.specs.Finding.{IsFinding, IsFindingOf}
use Rattle.auditor.specs.Tally.{IsTalliedOf}
use Rattle.vcpu_watch.specs.declared.tally.Tally.{Tally}
use Rattle.auditor.specs.declared.pieces.Audit.{Audit}
use Rattle.auditor.specs.Pieces.{HasAudited}
use Rattle.auditor.specs.declared.counted.Counted.{Counted}
use Rattle.auditor.specs.declared.counted.Counted.TheVariants.{Core, Stolen}
use Rattle.auditor.specs.declared.steal.StealFinding.{StealFinding}
use Rattle.auditor.specs.declared.steal.StealFinding.TheVariants.{Yes as NoneDenied, Denied}
use Rattle.auditor.specs.declared.steal.StealTally.{StealTally}
use Rattle.auditor.specs.Steal.{IsStealFinding, IsStolenOf}
use Rattle.tree_model.specs.Admission.{Assigned}
use Rattle.rt_report.specs.Steal.{steal_text, IsStealOfPart}
use Rattle.trace_commands.specs.Steal.{steal_status, IsToldSteal, Steals}
use Rattle.rt_report.specs.declared.fault.FileFault.TheVariants.{Trace}
use Rattle.rt_report.specs.Audit.{audit_text, IsFindingOf as IsToldOf}
use Rattle.rt_report.specs.Tally.{tally_text}
use Rattle.command_frame.specs.declared.status.Status.{Status}
use Rattle.command_frame.specs.declared.answer.Ending.{Ending}
use Rattle.command_frame.specs.declared.answer.Ending.TheVariants.{Answered, Unread, NoMemory as NoRoom}
use Rattle.command_frame.specs.Attempt.{GivesSome, IsRefused}
use Rattle.command_frame.specs.Budgets.{assigning}
use Rattle.command_frame.specs.OverFiles.{OnRead}
use Rattle.command_frame.specs.SecondFile.{IsToldFault}
use Rattle.command_frame.specs.Steps.{IfAnswered, HasTaken}
use Rattle.command_frame.proofs.SecondFile.{fault_said, unless_memory}
use Rattle.trace_commands.specs.declared.walk.TraceWalk.{TraceWalk}
use Rattle.trace_commands.specs.declared.walk.Walker.{Walker}
use Rattle.trace_commands.specs.declared.walk.Walker.TheVariants.{Audits, Checks}
use Rattle.trace_commands.specs.declared.audit.TraceCommand.{TraceCommand}
use Rattle.trace_commands.specs.declared.audit.TraceCommand.TheVariants.{Audit as ToAudit, Tally as ToTally, Steal as ToSteal}
use Rattle.trace_commands.specs.Audit.{tracing, finding_status, Audits as AuditsTrace, IsAudited, OnEvents}
use Rattle.trace_commands.specs.Tally.{IsToldTally, Tallies}
use Rattle.trace_commands.specs.Told.{trace_says}
use Rattle.trace_commands.specs.inner.Walk.{BeginsWalk, HasWalked, HasTakenTrace, IsAuditUnder, IsWaiting, IsUnaudited}

-- a walk that began with a system and what to count has walked over its trace
pub walked : (counted : Counted) (sys : SystemView) (bytes : List ℕ) (now : TraceWalk)
    → HasTaken (BeginsWalk counted sys) HasTakenTrace bytes now → HasWalked counted sys bytes now.walker
walked counted sys bytes now h =
    subst (λ (k : Counted). HasWalked k sys bytes now.walker) (h.took.alike ∙ h.begun.counting)
    (subst (λ (s : SystemView). HasWalked now.counted s bytes now.walker) (h.took.same ∙ h.begun.over) h.took.walked)

-- one that goes on has taken more
pub took_more : {Fault : Type 0} (result : Result (Unit {0}) Fault) (old new : TraceWalk) (piece : List ℕ)
    → new.sys.now ≡ old.sys.now → new.counted ≡ old.counted
    → ((counted : Counted) (sys : SystemView) (bytes : List ℕ) → HasWalked counted sys bytes old.walker
    → OnOk result (HasWalked counted sys (bytes ++ piece) new.walker)) → OnOk result (Took HasTakenTrace old new piece)
took_more (Ok done) old new piece same alike more = λ start bytes h. record {
  same = same ∙ h.same;
  alike = alike ∙ h.alike;
  walked =
      subst (λ (k : Counted). HasWalked k new.sys.now (bytes ++ piece) new.walker) (sym alike)
      (subst (λ (s : SystemView). HasWalked old.counted s (bytes ++ piece) new.walker) (sym same)
      (more old.counted old.sys.now bytes h.walked));
}
took_more (Err fault) old new piece same alike more = tt

-- what holds where a call goes well still holds with what follows from it
still : {Done Fault P Q : Type 0} (result : Result Done Fault) → (P → Q) → OnOk result P → OnOk result Q
still (Ok done) more holds = more holds
still (Err fault) more holds = tt

-- an audit that goes on, and a check that does while the refusal waits
pub audits_on : {Fault : Type 0} (result : Result (Unit {0}) Fault) (counted : Counted) (sys : SystemView)
    (bytes piece budgets : List ℕ)
    (old new : Audit) (walker : Walker) → walker ≡ Audits budgets old → HasWalked counted sys bytes walker
    → ((k : Counted) (s : SystemView) (b t : List ℕ) → HasAudited k s b t old
    → OnOk result (HasAudited k s b (t ++ piece) new))
    → OnOk result (HasWalked counted sys (bytes ++ piece) (Audits budgets new))
audits_on result counted sys bytes piece budgets old new walker is h take =
    let under : IsAuditUnder counted sys bytes budgets old = subst (HasWalked counted sys bytes) is h in
    still result (λ audited. record { assigned = under.assigned; plan = under.plan; audited = audited })
    (take counted sys budgets bytes under.audited)

pub checking : (counted : Counted) (sys : SystemView) (bytes : List ℕ) (check : TraceCheck) (refused : Ending)
    (walker : Walker)
    → walker ≡ Checks check refused → HasWalked counted sys bytes walker
    → HasChecked sys bytes check × IsWaiting sys refused
checking counted sys bytes check refused walker is h = subst (HasWalked counted sys bytes) is h

pub checks_on : {Fault : Type 0} (result : Result (Unit {0}) Fault) (counted : Counted) (sys : SystemView)
    (bytes piece : List ℕ) (old new : TraceCheck) (refused : Ending) (walker : Walker) → walker ≡ Checks old refused
    → HasWalked counted sys bytes walker
    → ((s : SystemView) (t : List ℕ) → HasChecked s t old → OnOk result (HasChecked s (t ++ piece) new))
    → OnOk result (HasWalked counted sys (bytes ++ piece) (Checks new refused))
checks_on result counted sys bytes piece old new refused walker is h take =
    let taken = checking counted sys bytes old refused walker is h in
    still result (λ checked. (checked, taken.1)) (take sys bytes taken.0)

-- what is found of a trace is told of a part of the system
pub told_of_part : (sys : SystemView) (budgets : List ℕ) (events : List Event) (finding : Finding)
    → IsFinding sys budgets events finding → IsToldOf sys finding
told_of_part sys budgets events (Kept periods) found = tt
told_of_part sys budgets events (Short v from got) found = found.short.period.is_part
told_of_part sys budgets events (Over v from got) found = found.over.period.is_part

pub steal_of_part : (sys : SystemView) (budgets : List ℕ) (events : List Event) (finding : StealFinding)
    → IsStealFinding sys budgets events finding → IsStealOfPart sys finding
steal_of_part sys budgets events (NoneDenied periods) found = tt
steal_of_part sys budgets events (Denied v from stolen) found = found.first.denied.period.is_part

-- a trace that is refused, and then the budgets, is what is said of the bytes, whatever is said of
-- a trace under budgets
module _ (sys : SystemView) (bytes : List ℕ) where
  pub unspelled : {Made : Type 0} (made : Result Made TraceFault)
      → IfErr made (λ fault. (fault ≡ TraceNoMemory) ⊎ IsFileFault sys (rows_of (records_of bytes)) fault)
      → (stop : Ending) → IfAnswered stop (λ a. IsToldFault Trace made a.status a.text.items)
      → IfAnswered stop (λ a. IsUnaudited sys bytes a.status a.text.items)
  unspelled made fault =
      fault_said Trace (Spells sys (records_of bytes)) (IsFileFault sys (rows_of (records_of bytes))) made
      (unless_memory (λ f. f ≡ TraceNoMemory) (IsFileFault sys (rows_of (records_of bytes))) made fault)
      (λ events. IsRefused (assigning sys))

  pub waited : GivesSome (tracing sys bytes) → (stop : Ending) → IsWaiting sys stop
      → IfAnswered stop (λ a. IsUnaudited sys bytes a.status a.text.items)
  waited trace (Answered a) waiting =
      inl (record { value = trace.value; gives = trace.gives; said = waiting.refused })
  waited trace Unread waiting = tt
  waited trace NoRoom waiting = tt

  unaudited : (Says : SystemView → List ℕ → List Event → Status → List ℕ → Type 0) (stop : Ending)
      → IfAnswered stop (λ a. IsUnaudited sys bytes a.status a.text.items)
      → IfAnswered stop (λ a. OnRead tracing (OnEvents Says) sys bytes a.status a.text.items)
  unaudited Says (Answered a) h = elim h [
    | inl given ↦ inl (record { value = given.value; gives = given.gives; said = inr given.said })
    | inr refused ↦ inr refused
  ]
  unaudited Says Unread h = tt
  unaudited Says NoRoom h = tt

  pub refused_said : (command : TraceCommand) (stop : Ending)
      → IfAnswered stop (λ a. IsUnaudited sys bytes a.status a.text.items)
      → IfAnswered stop (λ a. trace_says command sys bytes a.status a.text.items)
  refused_said ToAudit stop h = unaudited IsAudited stop h
  refused_said ToTally stop h = unaudited IsToldTally stop h
  refused_said ToSteal stop h = unaudited IsToldSteal stop h

  -- and what is found and counted under the budgets is said of it
  pub events_said : (Says : SystemView → List ℕ → List Event → Status → List ℕ → Type 0) (budgets : List ℕ)
      (events : List Event) (status : Status) (text : List ℕ) → Assigned sys budgets
      → Spells sys (records_of bytes) events → Says sys budgets events status text
      → OnRead tracing (OnEvents Says) sys bytes status text
  events_said Says budgets events status text assigned spells said =
      inl (record {
        value = events;
        gives = spells;
        said = inl (record { value = budgets; gives = assigned; said = said });
      })

  pub found_said : (budgets : List ℕ) (audit : Audit) (finding : Finding) (status : Status) (text : List ℕ)
      → IsAuditUnder Core sys bytes budgets audit → IsFindingOf sys budgets bytes finding
      → status ≡ finding_status finding → text ≡ audit_text sys budgets finding → AuditsTrace sys bytes status text
  found_said budgets audit finding status text under is status_is told =
      events_said IsAudited budgets is.events status text under.assigned is.spelled
      (record { finding = finding; found = is.found; status_is = status_is; told = told })

  pub tallied_said : (budgets : List ℕ) (audit : Audit) (finding : Finding) (tallies : List Tally) (status : Status)
      (text : List ℕ) → IsAuditUnder Core sys bytes budgets audit → IsTalliedOf sys budgets bytes finding tallies
      → status ≡ finding_status finding → text ≡ tally_text sys budgets finding tallies
      → Tallies sys bytes status text
  tallied_said budgets audit finding tallies status text under is status_is told =
      events_said IsToldTally budgets is.events status text under.assigned is.spelled
      (record {
        finding = finding;
        found = is.found;
        tallies = tallies;
        counted = is.counted;
        status_is = status_is;
        told = told;
      })

  pub stolen_said : (budgets : List ℕ) (audit : Audit) (finding : StealFinding) (tallies : List StealTally)
      (status : Status) (text : List ℕ) → IsAuditUnder Stolen sys bytes budgets audit
      → IsStolenOf sys budgets bytes finding tallies → status ≡ steal_status finding
      → text ≡ steal_text sys budgets finding tallies → Steals sys bytes status text
  stolen_said budgets audit finding tallies status text under is status_is told =
      events_said IsToldSteal budgets is.events status text under.assigned is.spelled
      (record {
        finding = finding;
        found = is.found;
        tallies = tallies;
        counted = is.counted;
        status_is = status_is;
        told = told;
      })
