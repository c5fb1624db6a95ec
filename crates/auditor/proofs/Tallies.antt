-- The tally of a VCPU, as an audit counts it and as a count of stolen time does.
use Rattle.std.proofs.Common.{ℕ, ◌-◌, ◌≤◌, List}
use Rattle.tree_model.specs.View.{SystemView}
use Rattle.tree_model.specs.Plans.{IsPlan}
use Rattle.trace_file.specs.declared.event.Event.{Event}
use Rattle.trace_file.specs.Periods.{HasPeriod, IsShort, IsOver}
use Rattle.vcpu_watch.specs.declared.tally.Tally.{Tally}
use Rattle.vcpu_watch.specs.declared.watch.Broken.{Broken}
use Rattle.vcpu_watch.specs.declared.watch.Breach.TheVariants.{Short, Over}
use Rattle.vcpu_watch.specs.Numbers.{IsNumberOf}
use Rattle.vcpu_watch.proofs.Tallying.{least_same, most_same}
use Rattle.std.specs.Prelude.{Option}
use Rattle.auditor.specs.declared.counted.Counted.TheVariants.{Core, Stolen}
use Rattle.auditor.specs.Tally.{IsJudged, IsTimeOf, IsTally}
use Rattle.auditor.specs.Steal.{IsDenied, IsKept, IsTimeStolen, IsStealTally}
use Rattle.auditor.specs.inner.Counting.{IsJudgedBy, Breaks}
use Rattle.auditor.specs.inner.First.{IsEndedOver, IsSettled, IsTallyBy, IsTimeBy, steal_tally_of}
use Rattle.auditor.proofs.OneNumber.{number_few, number_less, number_same}
use Rattle.auditor.proofs.Reading.{breaks_denied, breaks_over, breaks_short, denied_breaks, ends_judged, judged_kept, kept_judged, kept_not_over, over_breaks, short_breaks}

pub core_tally : (sys : SystemView) (budgets : List ℕ) (events : List Event) (v : ℕ) (t : Tally)
    → IsTallyBy Core sys budgets events v t → IsTally sys budgets events v t
core_tally sys budgets events v t h = record {
  begun = h.begun;
  judged =
      number_same (λ k. (f : ℕ) × IsJudgedBy Core sys events v f k) (λ k. (f : ℕ) × IsJudged sys events v f k) t.judged
      (λ k own. (own.0, record { period = own.1.period; judged = own.1.judged }))
      (λ k own. (own.0, record { period = own.1.period; judged = own.1.judged })) h.judged;
  short =
      number_same (λ k. (f : ℕ) × Breaks Core sys budgets events v f k Short)
      (λ k. (f : ℕ) × IsShort sys budgets events v f k) t.short
      (λ k own. (own.0, breaks_short sys budgets events v own.0 k own.1))
      (λ k own. (own.0, short_breaks sys budgets events v own.0 k own.1)) h.short;
  over =
      number_same (λ k. (f : ℕ) × Breaks Core sys budgets events v f k Over)
      (λ k. (f : ℕ) × IsOver sys budgets events v f k) t.over
      (λ k own. (own.0, breaks_over sys budgets events v own.0 k own.1))
      (λ k own. (own.0, over_breaks sys budgets events v own.0 k own.1)) h.over;
  least =
      least_same (IsTimeBy Core sys events v (IsJudgedBy Core sys events v))
      (IsTimeOf sys events v (IsJudged sys events v)) t.least
      (λ x is. record {
        f = is.f;
        k = is.k;
        is = record { period = is.is.period; judged = is.is.judged };
        time = is.time;
      })
      (λ x is. record {
        f = is.f;
        k = is.k;
        is = record { period = is.is.period; judged = is.is.judged };
        time = is.time;
      }) h.least;
  most =
      most_same (IsTimeBy Core sys events v (HasPeriod sys events v)) (IsTimeOf sys events v (HasPeriod sys events v))
      t.most (λ x is. record { f = is.f; k = is.k; is = is.is; time = is.time })
      (λ x is. record { f = is.f; k = is.k; is = is.is; time = is.time }) h.most;
}

module _ (sys : SystemView) (budgets : List ℕ) (events : List Event) (v : ℕ) (t : Tally) (many : ℕ)
    (first : Option Broken) (h : IsSettled Stolen sys budgets events v t many first) where
  over_judged : (k : ℕ) → ((f : ℕ) × IsEndedOver Stolen sys budgets events v f k)
      → ((f : ℕ) × IsJudgedBy Stolen sys events v f k)
  over_judged k is = (
    is.0,
    record { period = is.1.over.period; judged = ends_judged _ is.0 _ k is.1.ended },
  )

  pub few_over : many ≤ t.judged
  few_over =
      number_few (λ k. (f : ℕ) × IsJudgedBy Stolen sys events v f k)
      (λ k. (f : ℕ) × IsEndedOver Stolen sys budgets events v f k) t.judged many h.tallied.judged h.ended_over
      over_judged

  kept_number : IsPlan sys budgets → IsNumberOf (λ k. (f : ℕ) × IsKept sys budgets events v f k) (t.judged - many)
  kept_number plan =
      number_same
      (λ k. ((f : ℕ) × IsJudgedBy Stolen sys events v f k)
      × (((f : ℕ) × IsEndedOver Stolen sys budgets events v f k) → ⊥)) (λ k. (f : ℕ) × IsKept sys budgets events v f k)
      (t.judged - many)
      (λ k own. (
        own.0.0,
        judged_kept sys budgets events v own.0.0 k plan own.0.1 (λ over. own.1 (own.0.0, over)),
      ))
      (λ k own. (
        (own.0, kept_judged sys budgets events v own.0 k own.1),
        λ over. kept_not_over sys budgets events v own.0 over.0 k plan own.1 over.1,
      ))
      (number_less (λ k. (f : ℕ) × IsJudgedBy Stolen sys events v f k)
      (λ k. (f : ℕ) × IsEndedOver Stolen sys budgets events v f k) t.judged many h.tallied.judged h.ended_over
      over_judged)

  pub steal_tally : IsPlan sys budgets → IsStealTally sys budgets events v (steal_tally_of t many)
  steal_tally plan = record {
    begun = h.tallied.begun;
    kept = kept_number plan;
    denied =
        number_same (λ k. (f : ℕ) × Breaks Stolen sys budgets events v f k Over)
        (λ k. (f : ℕ) × IsDenied sys budgets events v f k) t.over
        (λ k own. (own.0, breaks_denied sys budgets events v own.0 k Over plan own.1))
        (λ k own. (own.0, denied_breaks sys budgets events v own.0 k plan own.1)) h.tallied.over;
    most =
        most_same (IsTimeBy Stolen sys events v (HasPeriod sys events v)) (IsTimeStolen sys events v) t.most
        (λ x is. record { f = is.f; k = is.k; period = is.is; time = is.time })
        (λ x is. record { f = is.f; k = is.k; is = is.period; time = is.time }) h.tallied.most;
  }
