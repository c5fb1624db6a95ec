-- What `tally` tells of a trace, and what it means.
use Rattle.std.proofs.Common.{◌≡◌, ◌⊎◌, ℕ, List, length, sym, ◌∙◌, ap, subst}
use Rattle.slot_model.specs.Slots.{sum_below}
use Rattle.tree_model.specs.View.{SystemView}
use Rattle.tree_model.specs.System.{IsSystem}
use Rattle.trace_file.specs.declared.event.Event.{Event}
use Rattle.auditor.specs.declared.finding.Finding.{Finding}
use Rattle.auditor.specs.declared.finding.Finding.TheVariants.{Yes as Kept, Short, Over}
use Rattle.vcpu_watch.specs.declared.tally.Tally.{Tally}
use Rattle.auditor.specs.Finding.{IsFinding}
use Rattle.auditor.specs.Tally.{AreTallies, tally_at}
use Rattle.auditor.proofs.OneFinding.{one_finding}
use Rattle.auditor.proofs.OneTally.{one_tallies, judged_sum}
use Rattle.rt_report.specs.Tally.{tally_text}
use Rattle.command_frame.specs.declared.status.Status.{Status}
use Rattle.command_frame.specs.declared.status.Status.TheVariants.{Yes, No}
use Rattle.command_frame.specs.Answer.{IsOne}
use Rattle.trace_commands.specs.Audit.{finding_status, TellsSatisfied}
use Rattle.trace_commands.specs.Tally.{the_tally, IsToldTally, TellsTally}
use Rattle.command_frame.proofs.CommandLaws.{CommandLaws}
use Rattle.trace_commands.proofs.Laws.Traced.{finding_is, finding_tells, trace_laws}

-- one answer
one_told : (sys : SystemView) (budgets : List ℕ) (events : List Event) → IsOne (IsToldTally sys budgets events)
one_told sys budgets events = λ s t x y p q.
    let same : p.finding ≡ q.finding = one_finding sys budgets events p.finding q.finding p.found q.found in
    let alike : p.tallies ≡ q.tallies = one_tallies sys budgets events p.tallies q.tallies p.counted q.counted in (
      p.status_is ∙ ap finding_status same ∙ sym q.status_is,
      p.told
          ∙ (ap (λ (f : Finding). tally_text sys budgets f p.tallies) same
          ∙ ap (λ (ts : List Tally). tally_text sys budgets q.finding ts) alike) ∙ sym q.told,
    )

-- what it means
on_yes : (sys : SystemView) → IsSystem sys
    → (budgets : List ℕ) (events : List Event) (finding : Finding) (tallies : List Tally)
    → IsFinding sys budgets events finding → AreTallies sys budgets events tallies → finding_status finding ≡ Yes
    → finding ≡ Kept (sum_below (λ v. (tally_at tallies v).judged) (length sys.parts))
on_yes sys is budgets events (Kept periods) tallies found counted told =
    ap Kept (found.1 ∙ sym (judged_sum sys is budgets events tallies counted))
on_yes sys is budgets events (Short v from got) tallies found counted told = absurd (cc)
on_yes sys is budgets events (Over v from got) tallies found counted told = absurd (cc)

told_tells : (sys : SystemView) → IsSystem sys
    → (budgets : List ℕ) (events : List Event) (status : Status) (text : List ℕ)
    → IsToldTally sys budgets events status text → TellsTally sys budgets events status text
told_tells sys is budgets events status text h = record {
  satisfied =
      subst (λ (z : Status). TellsSatisfied sys budgets events z) (sym h.status_is)
      (finding_tells sys budgets events h.finding h.found);
  finding = h.finding;
  found = h.found;
  tallies = h.tallies;
  counted = h.counted;
  told = h.told;
  on_yes = λ is_yes. on_yes sys is budgets events h.finding h.tallies h.found h.counted (sym h.status_is ∙ is_yes);
}

pub tally_laws : (file trace : List ℕ) → CommandLaws (the_tally file trace)
tally_laws file trace =
    trace_laws IsToldTally TellsTally (record {
      one = one_told;
      status =
          λ sys budgets events status text h. subst (λ (s : Status). (s ≡ Yes) ⊎ (s ≡ No)) (sym h.status_is)
          (finding_is h.finding);
      means = λ sys is budgets plan. told_tells sys is budgets;
    }) file trace
