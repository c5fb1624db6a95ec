-- What broken limits say of a period, as an audit calls it and as a count of stolen time does.
use Rattle.std.proofs.Common.{◌≡◌, ℕ, suc, ◌+◌, ◌-◌, ◌<◌, ◌≤◌, Bool, true, false, cond, ◌&&◌, eqb, leb, List, Option, Some, None, refl, sym, ◌∙◌, ap, subst, arith, inl, inr, leb-true}
use Rattle.std.proofs.lemmas.Bool.{cases_lt, and_parts, and_from, lt-ltb, le-ltb, ltb-true, le-leb, false≢true}
use Rattle.std.proofs.lemmas.Option.{same_Some}
use Rattle.slot_model.proofs.MissedJobs.{count_below-none}
use Rattle.tree_model.specs.View.{SystemView}
use Rattle.tree_model.specs.System.{part_at}
use Rattle.tree_model.specs.Plans.{IsPlan}
use Rattle.trace_file.specs.declared.event.Event.{Event}
use Rattle.trace_file.specs.Events.{end_of}
use Rattle.trace_file.specs.Periods.{period_of, budget_of, count_between, begins, is_clear, HasPeriod, IsShort, IsOver, IsBroken}
use Rattle.vcpu_watch.specs.declared.watch.Breach.{Breach}
use Rattle.vcpu_watch.specs.declared.watch.Breach.TheVariants.{Short, Over}
use Rattle.vcpu_watch.specs.Watch.{is_above}
use Rattle.vcpu_watch.proofs.Breaches.{short_breach, over_breach, breach_says}
use Rattle.auditor.specs.declared.counted.Counted.TheVariants.{Core, Stolen}
use Rattle.auditor.specs.Steal.{stolen_of, IsDenied, IsKept}
use Rattle.auditor.specs.inner.Counting.{limits_of, time_of, judged_at, IsJudgedBy, Breaks}
use Rattle.auditor.specs.inner.First.{IsEndedOver}

-- as an audit calls it
pub has_period : (sys : SystemView) (budgets : List ℕ) (events : List Event) (v f k : ℕ)
    → IsBroken sys budgets events v f k → HasPeriod sys events v f k
has_period sys budgets events v f k broken = elim broken [ inl is ↦ is.period | inr is ↦ is.period ]

above_budget : (extra : Bool) (budget got : ℕ) → is_above (cond {A = Option ℕ} extra None (Some budget)) got ≡ true
    → (extra ≡ false) × (budget < got)
above_budget true budget got e = absurd (false≢true e)
above_budget false budget got e = (refl, ltb-true budget got e)

pub breaks_short : (sys : SystemView) (budgets : List ℕ) (events : List Event) (v f k : ℕ)
    → Breaks Core sys budgets events v f k Short → IsShort sys budgets events v f k
breaks_short sys budgets events v f k h =
    let says
    = breach_says (limits_of Core sys budgets v) (judged_at Core sys events v f k) (time_of Core sys events v f k) Short
    h.so in
    record { period = h.period; judged = says.0; short = ltb-true _ _ says.1 }

pub breaks_over : (sys : SystemView) (budgets : List ℕ) (events : List Event) (v f k : ℕ)
    → Breaks Core sys budgets events v f k Over → IsOver sys budgets events v f k
breaks_over sys budgets events v f k h =
    let says
    = above_budget (part_at sys v).extra (budget_of budgets v) (time_of Core sys events v f k)
    (breach_says (limits_of Core sys budgets v) (judged_at Core sys events v f k) (time_of Core sys events v f k) Over
    h.so) in
    record { period = h.period; no_extra = says.0; over = says.1 }

pub short_breaks : (sys : SystemView) (budgets : List ℕ) (events : List Event) (v f k : ℕ)
    → IsShort sys budgets events v f k → Breaks Core sys budgets events v f k Short
short_breaks sys budgets events v f k is = record {
  period = is.period;
  so = short_breach (limits_of Core sys budgets v) _ _ is.judged (lt-ltb _ _ is.short);
}

pub over_breaks : (sys : SystemView) (budgets : List ℕ) (events : List Event) (v f k : ℕ)
    → IsOver sys budgets events v f k → Breaks Core sys budgets events v f k Over
over_breaks sys budgets events v f k is = record {
  period = is.period;
  so =
      over_breach (limits_of Core sys budgets v) _ _
      (le-ltb (time_of Core sys events v f k) (budget_of budgets v) (omega (arith, is.over)))
      (ap (λ (z : Bool). is_above (cond {A = Option ℕ} z None (Some (budget_of budgets v)))
      (time_of Core sys events v f k))
      is.no_extra ∙ lt-ltb (budget_of budgets v) (time_of Core sys events v f k) is.over);
}

pub is_broken : (sys : SystemView) (budgets : List ℕ) (events : List Event) (v f k : ℕ) (b : Breach)
    → Breaks Core sys budgets events v f k b → IsBroken sys budgets events v f k
is_broken sys budgets events v f k Short h = inl (breaks_short sys budgets events v f k h)
is_broken sys budgets events v f k Over h = inr (breaks_over sys budgets events v f k h)

pub broken_so : (sys : SystemView) (budgets : List ℕ) (events : List Event) (v f k : ℕ)
    → IsBroken sys budgets events v f k → (b : Breach) × Breaks Core sys budgets events v f k b
broken_so sys budgets events v f k broken = elim broken [
  | inl is ↦ (Short, short_breaks sys budgets events v f k is)
  | inr is ↦ (Over, over_breaks sys budgets events v f k is)
]

-- and of stolen time
pub breaks_denied : (sys : SystemView) (budgets : List ℕ) (events : List Event) (v f k : ℕ) (b : Breach)
    → IsPlan sys budgets → Breaks Stolen sys budgets events v f k b → IsDenied sys budgets events v f k
breaks_denied sys budgets events v f k Short plan h =
    absurd (false≢true
    (breach_says (limits_of Stolen sys budgets v) (judged_at Stolen sys events v f k) (time_of Stolen sys events v f k)
    Short h.so).1)
breaks_denied sys budgets events v f k Over plan h =
    let above
    = ltb-true (period_of sys v - budget_of budgets v) (stolen_of sys events v f k)
    (breach_says (limits_of Stolen sys budgets v) (judged_at Stolen sys events v f k) (time_of Stolen sys events v f k)
    Over h.so) in
    record { period = h.period; denied = omega (arith, above) }

pub denied_breaks : (sys : SystemView) (budgets : List ℕ) (events : List Event) (v f k : ℕ) → IsPlan sys budgets
    → IsDenied sys budgets events v f k → Breaks Stolen sys budgets events v f k Over
denied_breaks sys budgets events v f k plan is = record {
  period = is.period;
  so =
      over_breach (limits_of Stolen sys budgets v) _ _ refl
      (lt-ltb (period_of sys v - budget_of budgets v) (stolen_of sys events v f k)
      (omega (arith, is.denied, plan.in_period v is.period.is_part)));
}

-- where nothing excuses a period, it is judged exactly where it ends by the end of the trace
none_between : (a c : ℕ) → count_between (λ x. false) a c ≡ 0
none_between a c = count_below-none (λ x. leb a x && false) c (λ x _. none (leb a x))
  where
    none : (b : Bool) → (b && false) ≡ false
    none true = refl
    none false = refl

pub ends_judged : (period f end k : ℕ) → begins period f (suc k) ≤ end
    → (leb (begins period f (suc k)) end && is_clear (λ x. false) period f k) ≡ true
ends_judged period f end k l =
    and_from (leb (begins period f (suc k)) end) (is_clear (λ x. false) period f k)
    (le-leb (begins period f (suc k)) end l)
    (ap (λ (z : ℕ). eqb z 0) (none_between (begins period f k) (begins period f (suc k))))

pub judged_ends : (sys : SystemView) (events : List Event) (v f k : ℕ) → IsJudgedBy Stolen sys events v f k
    → begins (period_of sys v) f (suc k) ≤ end_of events
judged_ends sys events v f k h =
    leb-true (begins (period_of sys v) f (suc k)) (end_of events)
    (and_parts (leb (begins (period_of sys v) f (suc k)) (end_of events))
    (is_clear (λ x. false) (period_of sys v) f k) h.judged).0

-- such a period is kept exactly where it is not over
pub judged_kept : (sys : SystemView) (budgets : List ℕ) (events : List Event) (v f k : ℕ) → IsPlan sys budgets
    → IsJudgedBy Stolen sys events v f k → (IsEndedOver Stolen sys budgets events v f k → ⊥)
    → IsKept sys budgets events v f k
judged_kept sys budgets events v f k plan h never =
    let ended = judged_ends sys events v f k h in
    record {
      period = h.period;
      ended = ended;
      kept =
          elim (cases_lt (period_of sys v) (stolen_of sys events v f k + budget_of budgets v)) [
            | inl more ↦
                absurd (never (record {
                  ended = ended;
                  over = denied_breaks sys budgets events v f k plan (record { period = h.period; denied = more });
                }))
            | inr no_more ↦ no_more
          ];
    }

pub kept_judged : (sys : SystemView) (budgets : List ℕ) (events : List Event) (v f k : ℕ)
    → IsKept sys budgets events v f k → IsJudgedBy Stolen sys events v f k
kept_judged sys budgets events v f k is =
    record { period = is.period; judged = ends_judged (period_of sys v) f (end_of events) k is.ended }

pub kept_not_over : (sys : SystemView) (budgets : List ℕ) (events : List Event) (v f g k : ℕ) → IsPlan sys budgets
    → IsKept sys budgets events v f k → IsEndedOver Stolen sys budgets events v g k → ⊥
kept_not_over sys budgets events v f g k plan is over =
    let same : g ≡ f = same_Some g f (sym over.over.period.started ∙ is.period.started) in
    let denied
    = subst (λ (z : ℕ). IsDenied sys budgets events v z k) same
    (breaks_denied sys budgets events v g k Over plan over.over) in
    omega (arith, denied.denied, is.kept)
