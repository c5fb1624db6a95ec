-- What `audit` tells of a trace, and what it means.
use Rattle.std.proofs.Common.{◌≡◌, ◌⊎◌, ℕ, List, sym, ◌∙◌, ap, subst}
use Rattle.tree_model.specs.View.{SystemView}
use Rattle.trace_file.specs.declared.event.Event.{Event}
use Rattle.auditor.specs.declared.finding.Finding.{Finding}
use Rattle.auditor.proofs.OneFinding.{one_finding}
use Rattle.rt_report.specs.Audit.{audit_text}
use Rattle.command_frame.specs.declared.status.Status.{Status}
use Rattle.command_frame.specs.declared.status.Status.TheVariants.{Yes, No}
use Rattle.command_frame.specs.Answer.{IsOne}
use Rattle.command_frame.proofs.CommandLaws.{CommandLaws}
use Rattle.trace_commands.specs.Audit.{the_audit, finding_status, IsAudited, TellsSatisfied}
use Rattle.trace_commands.proofs.Laws.Traced.{finding_is, finding_tells, trace_laws}

one_audit : (sys : SystemView) (budgets : List ℕ) (events : List Event) → IsOne (IsAudited sys budgets events)
one_audit sys budgets events = λ s t x y p q.
    let same : p.finding ≡ q.finding = one_finding sys budgets events p.finding q.finding p.found q.found in (
      p.status_is ∙ ap finding_status same ∙ sym q.status_is,
      p.told ∙ ap (λ (f : Finding). audit_text sys budgets f) same ∙ sym q.told,
    )

pub audit_laws : (file trace : List ℕ) → CommandLaws (the_audit file trace)
audit_laws file trace =
    trace_laws IsAudited (λ sys budgets events status text. TellsSatisfied sys budgets events status) (record {
      one = one_audit;
      status =
          λ sys budgets events status text h. subst (λ (s : Status). (s ≡ Yes) ⊎ (s ≡ No)) (sym h.status_is)
          (finding_is h.finding);
      means =
          λ sys is budgets plan events status text h. subst (TellsSatisfied sys budgets events) (sym h.status_is)
          (finding_tells sys budgets events h.finding h.found);
    }) file trace
