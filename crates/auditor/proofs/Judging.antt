-- How many periods of a VCPU are judged, by the time that is counted.
use Rattle.std.proofs.Common.{◌≡◌, ℕ, suc, ◌<◌, ◌≤◌, Bool, true, false, leb, List, length, Option, Some, None, refl, sym, ◌∙◌, subst, arith, inl, inr, leb-true}
use Rattle.std.proofs.Math.Nat.{mul-le-mul_left}
use Rattle.std.proofs.lemmas.Bool.{cases_Bool, and_parts, and_left}
use Rattle.std.proofs.lemmas.Option.{same_Some, none-some}
use Rattle.slot_model.specs.Slots.{count_below}
use Rattle.slot_model.proofs.Counts.{count_same}
use Rattle.tree_model.specs.View.{SystemView}
use Rattle.tree_model.specs.System.{IsSystem}
use Rattle.trace_file.specs.declared.event.Event.{Event}
use Rattle.trace_file.specs.Events.{start_of, end_of}
use Rattle.trace_file.specs.Periods.{period_of, begins, is_clear, judged_of}
use Rattle.vcpu_watch.specs.Numbers.{IsNumberOf}
use Rattle.vcpu_watch.proofs.Tallying.{none_has}
use Rattle.auditor.specs.declared.counted.Counted.{Counted}
use Rattle.auditor.specs.declared.counted.Counted.TheVariants.{Core, Stolen}
use Rattle.auditor.specs.Steal.{ended_of}
use Rattle.auditor.specs.inner.Counting.{excuses, judged_at, IsJudgedBy}
use Rattle.auditor.proofs.OneNumber.{one_number}
use Rattle.auditor.proofs.Reading.{ends_judged}

abbrev pub judged_by : Counted → SystemView → List Event → ℕ → Option ℕ → ℕ
judged_by counted sys events v None = 0
judged_by counted sys events v (Some f) = count_below (judged_at counted sys events v f) (end_of events)

-- as an audit counts them, and as a count of stolen time does
pub judged_core : (sys : SystemView) (events : List Event) (v : ℕ) (o : Option ℕ)
    → judged_by Core sys events v o ≡ judged_of sys events v o
judged_core sys events v None = refl
judged_core sys events v (Some f) = refl

pub judged_stolen : (sys : SystemView) (events : List Event) (v : ℕ) (o : Option ℕ)
    → judged_by Stolen sys events v o ≡ ended_of sys events v o
judged_stolen sys events v None = refl
judged_stolen sys events v (Some f) =
    count_same (judged_at Stolen sys events v f) (λ k. leb (begins (period_of sys v) f (suc k)) (end_of events))
    (end_of events) (λ k l. same k)
  where
    same : (k : ℕ) → judged_at Stolen sys events v f k ≡ leb (begins (period_of sys v) f (suc k)) (end_of events)
    same k = elim (cases_Bool (leb (begins (period_of sys v) f (suc k)) (end_of events))) [
      | inl e ↦
          ends_judged (period_of sys v) f (end_of events) k (leb-true (begins (period_of sys v) f (suc k))
          (end_of events) e)
          ∙ sym e
      | inr e ↦
          and_left (leb (begins (period_of sys v) f (suc k)) (end_of events)) (is_clear (λ x. false)
          (period_of sys v) f k)
          e ∙ sym e
    ]

-- the number of judged periods, where the VCPU starts or not
judged_none : (counted : Counted) (sys : SystemView) (events : List Event) (v n : ℕ) → start_of events v ≡ None
    → IsNumberOf (λ k. (f : ℕ) × IsJudgedBy counted sys events v f k) n → n ≡ 0
judged_none counted sys events v n none h =
    one_number (λ k. (f : ℕ) × IsJudgedBy counted sys events v f k) n 0 h
    (none_has _ (λ k is. none-some is.0 (sym none ∙ is.1.period.started)))

judged_some : (counted : Counted) (sys : SystemView) (events : List Event) (v f n : ℕ) → v < length sys.parts
    → 1 ≤ period_of sys v → start_of events v ≡ Some f
    → IsNumberOf (λ k. (g : ℕ) × IsJudgedBy counted sys events v g k) n
    → n ≡ count_below (judged_at counted sys events v f) (end_of events)
judged_some counted sys events v f n part some start h =
    let period = period_of sys v in
    let test : ℕ → Bool = judged_at counted sys events v f in
    let ends : (k : ℕ) → test k ≡ true → begins period f (suc k) ≤ end_of events
    = λ k e. leb-true (begins period f (suc k)) (end_of events)
    (and_parts (leb (begins period f (suc k)) (end_of events)) (is_clear (excuses counted events v) period f k) e).0 in
    one_number (λ k. (g : ℕ) × IsJudgedBy counted sys events v g k) n (count_below test (end_of events)) h (record {
      test = test;
      limit = end_of events;
      have =
          λ k _ e. (
            f,
            record {
              period = record { is_part = part; started = start; in_trace = omega (arith, ends k e, some) };
              judged = e;
            },
          );
      pass = λ k is.
          let own : IsJudgedBy counted sys events v f k
          = subst (λ (z : ℕ). IsJudgedBy counted sys events v z k)
          (same_Some is.0 f (sym is.1.period.started ∙ start)) is.1 in
          (omega (arith, ends k own.judged, mul-le-mul_left (suc k) some), own.judged);
      count = refl;
    })

pub judged_is : (counted : Counted) (sys : SystemView) → IsSystem sys → (events : List Event) (v n : ℕ)
    → v < length sys.parts → IsNumberOf (λ k. (f : ℕ) × IsJudgedBy counted sys events v f k) n
    → n ≡ judged_by counted sys events v (start_of events v)
judged_is counted sys is events v n part h = go (start_of events v) refl
  where
    some : 1 ≤ period_of sys v
    some = omega (arith, (is.parts v part).period.0)

    go : (o : Option ℕ) → start_of events v ≡ o → n ≡ judged_by counted sys events v o
    go None e = judged_none counted sys events v n e h
    go (Some f) e = judged_some counted sys events v f n part some e h
