-- What `steal` tells of a trace, and what it means.
use Rattle.std.proofs.Common.{◌≡◌, ◌⊎◌, ℕ, suc, ◌+◌, ◌<◌, ◌≤◌, min, List, length, refl, sym, ◌∙◌, ap, subst, inl, inr, arith}
use Rattle.std.proofs.lemmas.Bool.{cases_lt}
use Rattle.slot_model.specs.Slots.{sum_below}
use Rattle.tree_model.specs.View.{SystemView}
use Rattle.tree_model.specs.System.{IsSystem}
use Rattle.tree_model.specs.Plans.{IsPlan}
use Rattle.trace_file.specs.declared.event.Event.{Event}
use Rattle.trace_file.specs.Events.{start_of, end_of}
use Rattle.trace_file.specs.Periods.{period_of, budget_of, begins, blocked, running}
use Rattle.halting.specs.Stolen.{is_stolen}
use Rattle.auditor.specs.declared.steal.StealFinding.{StealFinding}
use Rattle.auditor.specs.declared.steal.StealFinding.TheVariants.{Yes as Kept, Denied}
use Rattle.auditor.specs.declared.steal.StealTally.{StealTally}
use Rattle.auditor.specs.Steal.{IsStealFinding, AreStealTallies, NoneDenied, stolen_of, steal_tally_at}
use Rattle.auditor.proofs.OneSteal.{one_steal_finding, one_steal_tallies, kept_sum}
use Rattle.rt_report.specs.Steal.{steal_text}
use Rattle.command_frame.specs.declared.status.Status.{Status}
use Rattle.command_frame.specs.declared.status.Status.TheVariants.{Yes, No}
use Rattle.command_frame.specs.Answer.{IsOne}
use Rattle.command_frame.proofs.CommandLaws.{CommandLaws}
use Rattle.trace_commands.specs.Steal.{the_steal, steal_status, AllAreSpared, IsToldSteal, LeavesKeep, TellsSteal}
use Rattle.isolated_guests.proofs.Traces.{keeps_in_traces}
use Rattle.trace_file.proofs.Counting.{between_none}
use Rattle.trace_commands.proofs.Laws.Traced.{trace_laws}

-- one answer
one_told : (sys : SystemView) (budgets : List ℕ) (events : List Event) → IsOne (IsToldSteal sys budgets events)
one_told sys budgets events = λ s t x y p q.
    let same : p.finding ≡ q.finding = one_steal_finding sys budgets events p.finding q.finding p.found q.found in
    let alike : p.tallies ≡ q.tallies
    = one_steal_tallies sys budgets events p.tallies q.tallies p.counted q.counted in (
      p.status_is ∙ ap steal_status same ∙ sym q.status_is,
      p.told
          ∙ (ap (λ (f : StealFinding). steal_text sys budgets f p.tallies) same
          ∙ ap (λ (ts : List StealTally). steal_text sys budgets q.finding ts) alike) ∙ sym q.told,
    )

steal_is : (finding : StealFinding) → (steal_status finding ≡ Yes) ⊎ (steal_status finding ≡ No)
steal_is (Kept periods) = inl refl
steal_is (Denied v from stolen) = inr refl

steal_tells : (sys : SystemView) (budgets : List ℕ) (events : List Event) (finding : StealFinding)
    → IsStealFinding sys budgets events finding
    → (steal_status finding ≡ Yes → NoneDenied sys budgets events)
    × (NoneDenied sys budgets events → steal_status finding ≡ Yes)
steal_tells sys budgets events (Kept periods) found = (λ told. found.0, λ none. refl)
steal_tells sys budgets events (Denied v from stolen) found =
    (λ told. absurd (cc), λ none. absurd (none v found.start found.period found.first.denied))

on_yes : (sys : SystemView) → IsSystem sys
    → (budgets : List ℕ) (events : List Event) (finding : StealFinding) (tallies : List StealTally)
    → IsStealFinding sys budgets events finding → AreStealTallies sys budgets events tallies
    → steal_status finding ≡ Yes
    → finding ≡ Kept (sum_below (λ v. (steal_tally_at tallies v).kept) (length sys.parts))
on_yes sys is budgets events (Kept periods) tallies found counted told =
    ap (λ (n : ℕ). let kept : StealFinding = Kept n in kept)
    (found.1 ∙ sym (kept_sum sys is budgets events found.0 tallies counted))
on_yes sys is budgets events (Denied v from stolen) tallies found counted told = absurd (cc)

-- all are spared exactly where no period is denied: none that begins at the end or behind it loses
-- a moment
module _ (sys : SystemView) (budgets : List ℕ) (events : List Event) where
  spared : IsPlan sys budgets → NoneDenied sys budgets events → AllAreSpared sys budgets events
  spared plan none v f part started k =
      elim (cases_lt (begins (period_of sys v) f k) (end_of events)) [
        | inl before ↦ elim (cases_lt (period_of sys v) (stolen_of sys events v f k + budget_of budgets v)) [
          | inl more ↦ absurd (none v f k (record {
            period = record { is_part = part; started = started; in_trace = before };
            denied = more;
          }))
          | inr no_more ↦ no_more
        ]
        | inr behind ↦
            let nothing : stolen_of sys events v f k ≡ 0
            = between_none (is_stolen (blocked events v) (running sys events v)) (begins (period_of sys v) f k)
            (min (begins (period_of sys v) f (suc k)) (end_of events)) (omega (arith, behind)) in
            omega (arith, nothing, plan.in_period v part)
      ]

  none_denied : AllAreSpared sys budgets events → NoneDenied sys budgets events
  none_denied all v f k denied =
      absurd (omega (arith, all v f denied.period.is_part denied.period.started k, denied.denied))

  keep : IsSystem sys → IsPlan sys budgets → AllAreSpared sys budgets events → LeavesKeep sys budgets events
  keep is plan all c v f jobs own_run part on_core leaf passes started guest =
      keeps_in_traces sys budgets events v f jobs own_run is plan part leaf passes (all v f part started) guest

told_tells : (sys : SystemView) → IsSystem sys → (budgets : List ℕ) → IsPlan sys budgets
    → (events : List Event) (status : Status) (text : List ℕ)
    → IsToldSteal sys budgets events status text → TellsSteal sys budgets events status text
told_tells sys is budgets plan events status text h =
    let tells = steal_tells sys budgets events h.finding h.found in
    let only : status ≡ Yes → NoneDenied sys budgets events = λ told. tells.0 (sym h.status_is ∙ told) in
    let always : NoneDenied sys budgets events → status ≡ Yes = λ none. h.status_is ∙ tells.1 none in
    record {
      only = only;
      always = always;
      spared = λ told. spared sys budgets events plan (only told);
      where_spared = λ all. always (none_denied sys budgets events all);
      keeps = λ told. keep sys budgets events is plan (spared sys budgets events plan (only told));
      finding = h.finding;
      found = h.found;
      tallies = h.tallies;
      counted = h.counted;
      told = h.told;
      on_yes = λ told. on_yes sys is budgets events h.finding h.tallies h.found h.counted (sym h.status_is ∙ told);
    }

pub steal_laws : (file trace : List ℕ) → CommandLaws (the_steal file trace)
steal_laws file trace =
    trace_laws IsToldSteal TellsSteal (record {
      one = one_told;
      status =
          λ sys budgets events status text h. subst (λ (s : Status). (s ≡ Yes) ⊎ (s ≡ No)) (sym h.status_is)
          (steal_is h.finding);
      means = told_tells;
    }) file trace
