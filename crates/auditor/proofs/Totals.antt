-- The tally of one VCPU in a whole trace.
use Rattle.std.proofs.Common.{◌≡◌, ℕ, suc, ◌+◌, ◌<◌, ◌≤◌, Bool, true, false, cond, ltb, List, [], ◌∷◌, ◌++◌, length, Option, Some, None, is_some, get_or, refl, sym, ◌∙◌, ap, subst, arith, inl, inr}
use Rattle.std.proofs.Math.Nat.{mul-le-mul_right}
use Rattle.std.proofs.Math.ListN.{get_or-append}
use Rattle.std.proofs.Math.Seq.{get_or-append_seam}
use Rattle.std.proofs.lemmas.Bool.{cases_lt, lt-ltb, le-ltb, false≢true}
use Rattle.std.proofs.lemmas.Option.{same_Some, none-some}
use Rattle.tree_model.specs.View.{SystemView}
use Rattle.trace_file.specs.declared.event.Event.{Event}
use Rattle.slot_model.specs.Slots.{count_below}
use Rattle.trace_file.specs.Events.{last_among, starts, moment_of, start_of, end_of, is_started}
use Rattle.trace_file.specs.Periods.{period_of, count_between, begins, is_clear, is_judged, HasPeriod}
use Rattle.vcpu_watch.specs.declared.tally.Tally.{Tally}
use Rattle.vcpu_watch.specs.declared.watch.State.{State}
use Rattle.vcpu_watch.specs.declared.watch.Watch.{Watch}
use Rattle.vcpu_watch.specs.declared.watch.Broken.{Broken}
use Rattle.vcpu_watch.specs.declared.watch.Breach.{Breach}
use Rattle.vcpu_watch.specs.declared.watch.Breach.TheVariants.{Short, Over}
use Rattle.vcpu_watch.specs.declared.watch.Limits.{Limits}
use Rattle.vcpu_watch.specs.Numbers.{IsNumberOf}
use Rattle.vcpu_watch.specs.Watch.{breach_of, whole_got, whole_breach, first_broken, is_short_breach, is_over_breach, counted as counted_on, cut_tally, IsTimeBelow, IsTallied, TellsOn, no_tally}
use Rattle.auditor.specs.declared.counted.Counted.{Counted}
use Rattle.auditor.specs.inner.Counting.{counts, excuses, limits_of, shown, time_of, judged_at, breach_at, IsJudgedBy, Breaks}
use Rattle.auditor.specs.inner.Told.{IsTold, TellsOf, state_at}
use Rattle.auditor.specs.inner.First.{IsEndedOver, IsFirstOfVcpu, IsSettled, IsTallyBy, IsTimeBy}
use Rattle.vcpu_watch.proofs.Tallying.{count_true, none_has, least_same, most_same, tallied_one, tallied_same}
use Rattle.auditor.proofs.Following.{shown_stays}
use Rattle.auditor.proofs.Settling.{ends_by, ends_after, judged_then, judged_never, got_whole, got_cut, whole_is, cut_is, settled_broken}

short_of : (o : Option Breach) → is_short_breach o ≡ true → o ≡ Some Short
short_of None e = absurd (let wrong : false ≡ true = e in cc)
short_of (Some Short) e = refl
short_of (Some Over) e = absurd (let wrong : false ≡ true = e in cc)

over_of : (o : Option Breach) → is_over_breach o ≡ true → o ≡ Some Over
over_of None e = absurd (let wrong : false ≡ true = e in cc)
over_of (Some Short) e = absurd (let wrong : false ≡ true = e in cc)
over_of (Some Over) e = refl

-- the periods of VCPU v, which starts at f, that begin before the end are the first n
record HasFirst (sys : SystemView) (events : List Event) (v f n : ℕ) : Type 0 where
  is_part : v < length sys.parts
  started : start_of events v ≡ Some f
  inside : (k : ℕ) → k < n → begins (period_of sys v) f k < end_of events
  below : (k : ℕ) → begins (period_of sys v) f k < end_of events → k < n

-- each period of v counts from f
has_at : (sys : SystemView) (events : List Event) (v f n k : ℕ) → HasFirst sys events v f n → k < n
    → HasPeriod sys events v f k
has_at sys events v f n k h l = record { is_part = h.is_part; started = h.started; in_trace = h.inside k l }

same_start : (sys : SystemView) (events : List Event) (v f n g k : ℕ) → HasFirst sys events v f n
    → HasPeriod sys events v g k → g ≡ f
same_start sys events v f n g k h other = same_Some g f (sym other.started ∙ h.started)

has_below : (sys : SystemView) (events : List Event) (v f n g k : ℕ) → HasFirst sys events v f n
    → HasPeriod sys events v g k → k < n
has_below sys events v f n g k h other =
    h.below k (omega (arith, other.in_trace, same_start sys events v f n g k h other))

-- the tally of the first n periods is that of the trace
breaks_number : (counted : Counted) (sys : SystemView) (budgets : List ℕ) (events : List Event) (v f n m : ℕ)
    (b : Breach) (is : Option Breach → Bool) → HasFirst sys events v f n
    → ((o : Option Breach) → is o ≡ true → o ≡ Some b) → is (Some b) ≡ true
    → m ≡ count_below (λ k. is (breach_at counted sys budgets events v f k)) n
    → IsNumberOf (λ k. (g : ℕ) × Breaks counted sys budgets events v g k b) m
breaks_number counted sys budgets events v f n m b is h says own count = record {
  test = λ k. is (breach_at counted sys budgets events v f k);
  limit = n;
  have = λ k l e. (f, record { period = has_at sys events v f n k h l; so = says _ e });
  pass = λ k other.
      let same
      = subst (λ (z : ℕ). Breaks counted sys budgets events v z k b)
      (same_start sys events v f n other.0 k h other.1.period) other.1 in
      (has_below sys events v f n f k h same.period, ap is same.so ∙ own);
  count = count;
}

tally_is : (counted : Counted) (sys : SystemView) (budgets : List ℕ) (events : List Event) (v f n : ℕ) (t : Tally)
    → HasFirst sys events v f n
    → IsTallied (judged_at counted sys events v f) (time_of counted sys events v f)
    (breach_at counted sys budgets events v f) n t → IsTallyBy counted sys budgets events v t
tally_is counted sys budgets events v f n t h of = record {
  begun =
      record {
        test = λ _. true;
        limit = n;
        have = λ k l _. (f, has_at sys events v f n k h l);
        pass = λ k is. (has_below sys events v f n is.0 k h is.1, refl);
        count = of.begun ∙ sym (count_true n);
      };
  judged = record {
    test = judged_at counted sys events v f;
    limit = n;
    have = λ k l e. (f, record { period = has_at sys events v f n k h l; judged = e });
    pass = λ k is.
        let own : IsJudgedBy counted sys events v f k
        = subst (λ (z : ℕ). IsJudgedBy counted sys events v z k) (same_start sys events v f n is.0 k h is.1.period)
        is.1 in
        (has_below sys events v f n f k h own.period, own.judged);
    count = of.judged;
  };
  short = breaks_number counted sys budgets events v f n t.short Short is_short_breach h short_of refl of.short;
  over = breaks_number counted sys budgets events v f n t.over Over is_over_breach h over_of refl of.over;
  least =
      least_same (IsTimeBelow (judged_at counted sys events v f) (time_of counted sys events v f) n)
      (IsTimeBy counted sys events v (IsJudgedBy counted sys events v)) t.least
      (λ x is. record {
        f = f;
        k = is.k;
        is = record { period = has_at sys events v f n is.k h is.below; judged = is.passes };
        time = is.time_is;
      })
      (λ x is.
      let e = same_start sys events v f n is.f is.k h is.is.period in
      let own : IsJudgedBy counted sys events v f is.k
      = subst (λ (z : ℕ). IsJudgedBy counted sys events v z is.k) e is.is in
      record {
        k = is.k;
        below = has_below sys events v f n f is.k h own.period;
        passes = own.judged;
        time_is = is.time ∙ ap (λ (z : ℕ). time_of counted sys events v z is.k) e;
      }) of.least;
  most =
      most_same (IsTimeBelow (λ _. true) (time_of counted sys events v f) n)
      (IsTimeBy counted sys events v (HasPeriod sys events v)) t.most
      (λ x is. record { f = f; k = is.k; is = has_at sys events v f n is.k h is.below; time = is.time_is })
      (λ x is.
      let e = same_start sys events v f n is.f is.k h is.is in
      record {
        k = is.k;
        below = has_below sys events v f n is.f is.k h is.is;
        passes = refl;
        time_is = is.time ∙ ap (λ (z : ℕ). time_of counted sys events v z is.k) e;
      }) of.most;
}

-- those of the periods that have ended that are over
ended_number : (counted : Counted) (sys : SystemView) (budgets : List ℕ) (events : List Event)
    (v f ended from m : ℕ) → v < length sys.parts → 1 ≤ period_of sys v → start_of events v ≡ Some f
    → from ≡ begins (period_of sys v) f ended → from ≤ end_of events → end_of events < from + period_of sys v
    → m ≡ count_below (λ k. is_over_breach (whole_breach (counts counted sys events v) (excuses counted events v)
    (limits_of counted sys budgets v) f k)) ended
    → IsNumberOf (λ k. (g : ℕ) × IsEndedOver counted sys budgets events v g k) m
ended_number counted sys budgets events v f ended from m part some start e h l count =
    let own : (k : ℕ) → k < ended → breach_at counted sys budgets events v f k
    ≡ whole_breach (counts counted sys events v) (excuses counted events v) (limits_of counted sys budgets v) f k
    = λ k less. whole_is counted sys budgets events v f ended from k e h less in
    let ends : (k : ℕ) → k < ended → begins (period_of sys v) f (suc k) ≤ end_of events
    = λ k less. ends_by (period_of sys v) f ended from (end_of events) k e h less in
    record {
      test =
          λ k. is_over_breach (whole_breach (counts counted sys events v) (excuses counted events v)
          (limits_of counted sys budgets v) f k);
      limit = ended;
      have =
          λ k less is. (
            f,
            record {
              ended = ends k less;
              over =
                  record {
                    period =
                        record { is_part = part; started = start; in_trace = omega (arith, ends k less, some) };
                    so = own k less ∙ over_of _ is;
                  };
            },
          );
      pass = λ k other.
          let is
          = subst (λ (z : ℕ). IsEndedOver counted sys budgets events v z k)
          (same_Some other.0 f (sym other.1.over.period.started ∙ start)) other.1 in
          let less : k < ended = elim (cases_lt k ended) [
            | inl m ↦ m
            | inr m ↦ absurd (omega (
              arith,
              is.ended,
              ends_after (period_of sys v) f ended from
                  (end_of events) k e l m,
            ))
          ] in
          (less, ap is_over_breach (sym (own k less) ∙ is.over.so));
      count = count;
    }

-- the periods that begin before the end: those that have ended, and the one that the end cuts
cut_inside : (period f ended from end : ℕ) → from ≡ begins period f ended → from < end → (k : ℕ) → k < suc ended
    → begins period f k < end
cut_inside period f ended from end e h k l =
    let m : k ≤ ended = omega arith in omega (arith, e, mul-le-mul_right period m)

cut_below : (period f ended from end : ℕ) → from ≡ begins period f ended → end < from + period → (k : ℕ)
    → begins period f k < end → k < suc ended
cut_below period f ended from end e h k l =
    elim (cases_lt k (suc ended)) [ inl m ↦ m | inr m ↦ absurd (omega (arith, e, mul-le-mul_right period m)) ]

whole_inside : (period f ended from end : ℕ) → 1 ≤ period → from ≡ begins period f ended → from ≤ end → (k : ℕ)
    → k < ended → begins period f k < end
whole_inside period f ended from end some e h k l =
    let m : suc k ≤ ended = omega arith in omega (arith, e, mul-le-mul_right period m)

whole_below : (period f ended from end : ℕ) → from ≡ begins period f ended → end ≤ from → (k : ℕ)
    → begins period f k < end → k < ended
whole_below period f ended from end e h k l =
    elim (cases_lt k ended) [ inl m ↦ m | inr m ↦ absurd (omega (arith, e, mul-le-mul_right period m)) ]

tally_on : (counted : Counted) (sys : SystemView) (budgets : List ℕ) (events : List Event) (v f ended from got : ℕ)
    (t : Tally)
    → v < length sys.parts → 1 ≤ period_of sys v → start_of events v ≡ Some f → from ≡ begins (period_of sys v) f ended
    → from ≤ end_of events → end_of events < from + period_of sys v
    → got ≡ count_between (counts counted sys events v) from (end_of events)
    → IsTallied (is_clear (excuses counted events v) (period_of sys v) f)
    (whole_got (counts counted sys events v) (limits_of counted sys budgets v) f)
    (whole_breach (counts counted sys events v) (excuses counted events v) (limits_of counted sys budgets v) f) ended t
    → IsTallyBy counted sys budgets events v
    (cond (ltb from (end_of events)) (counted_on t 1 false got (breach_of
    (limits_of counted sys budgets v) false got)) t)
tally_on counted sys budgets events v f ended from got t part some start e h l eg of =
    let end = end_of events in
    let period = period_of sys v in
    let r = limits_of counted sys budgets v in
    let whole
    = tallied_same (is_clear (excuses counted events v) period f) (is_judged (excuses counted events v) period f end)
    (whole_got (counts counted sys events v) r f) (time_of counted sys events v f)
    (whole_breach (counts counted sys events v) (excuses counted events v) r f)
    (breach_at counted sys budgets events v f) ended t
    (λ k m. sym (judged_then (excuses counted events v) period f ended from end k e h m))
    (λ k m. sym (got_whole (counts counted sys events v) period f end k (ends_by period f ended from end k e h m)))
    (λ k m. sym (whole_is counted sys budgets events v f ended from k e h m)) of in
    elim (cases_lt from end) [
      | inl inside ↦
          subst (IsTallyBy counted sys budgets events v) (ap
          (λ (z : Bool). cond z (counted_on t 1 false got (breach_of r false got)) t)
          (sym (lt-ltb from end inside)))
          (tally_is counted sys budgets events v f (suc ended) (counted_on t 1 false got (breach_of r false got))
          (record {
            is_part = part;
            started = start;
            inside = cut_inside period f ended from end e inside;
            below = cut_below period f ended from end e l;
          })
          (tallied_one (is_judged (excuses counted events v) period f end) (time_of counted sys events v f)
          (breach_at counted sys budgets events v f) ended t false got (breach_of r false got)
          (judged_never (excuses counted events v) period f ended from end ended e l (omega arith))
          (got_cut (counts counted sys events v) period f ended from end e l ∙ sym eg)
          (cut_is counted sys budgets events v f ended from got e l eg) whole))
      | inr behind ↦
          subst (IsTallyBy counted sys budgets events v) (ap
          (λ (z : Bool). cond z (counted_on t 1 false got (breach_of r false got)) t)
          (sym (le-ltb from end behind)))
          (tally_is counted sys budgets events v f ended t (record {
            is_part = part;
            started = start;
            inside = whole_inside period f ended from end some e h;
            below = whole_below period f ended from end e behind;
          }) whole)
    ]

-- a VCPU that does not start has no periods
no_period : (sys : SystemView) (events : List Event) (v f k : ℕ) → start_of events v ≡ None → HasPeriod sys events v f k
    → ⊥
no_period sys events v f k none has = none-some f (sym none ∙ has.started)

tally_none : (counted : Counted) (sys : SystemView) (budgets : List ℕ) (events : List Event) (v : ℕ)
    → start_of events v ≡ None → IsTallyBy counted sys budgets events v no_tally
tally_none counted sys budgets events v none = record {
  begun = none_has _ (λ k is. no_period sys events v is.0 k none is.1);
  judged = none_has _ (λ k is. no_period sys events v is.0 k none is.1.period);
  short = none_has _ (λ k is. no_period sys events v is.0 k none is.1.period);
  over = none_has _ (λ k is. no_period sys events v is.0 k none is.1.period);
  least = λ x is. no_period sys events v is.f is.k none is.is.period;
  most = λ x is. no_period sys events v is.f is.k none is.is;
}

-- up to the end of the trace
pub settled_on : (counted : Counted) (sys : SystemView) (budgets : List ℕ) (events : List Event) (v at : ℕ) (r : Limits)
    (state : State) (w new : Watch) (tally : Tally) (many : ℕ) (broken : Option Broken) → v < length sys.parts
    → 1 ≤ period_of sys v → r ≡ limits_of counted sys budgets v → at ≡ end_of events
    → state ≡ shown counted (state_at sys events (length events) v)
    → IsTold counted sys budgets events (length events) v w → TellsOn r state w at new → new.now ≡ at
    → at < new.from + r.period → tally ≡ cut_tally new (breach_of r false new.got) → many ≡ new.tally.over
    → broken ≡ first_broken new.broken (breach_of r false new.got) new.from new.got
    → IsSettled counted sys budgets events v tally many broken
settled_on counted sys budgets events v at r state w new tally many broken part some er ea es t tells now within et em
    eb
    =
    let own = limits_of counted sys budgets v in
    let on : TellsOn own (shown counted (state_at sys events (length events) v)) w at new
    = subst (λ (z : Limits). TellsOn z (shown counted (state_at sys events (length events) v)) w at new) er
    (subst (λ (z : State). TellsOn r z w at new) es tells) in
    let told : TellsOf counted sys budgets events v t.start new
    = on (counts counted sys events v) (excuses counted events v) t.start
    (shown_stays counted sys events v (state_at sys events (length events) v) w.now at (record {
      runs_on = λ x h l. t.runs_on x h (λ i a m. absurd (omega arith));
      blocked_on = λ x h l. t.blocked_on x h (λ i a m. absurd (omega arith));
    })) t.tells in
    let ends : new.now ≡ end_of events = now ∙ ea in
    let cut : end_of events < new.from + period_of sys v
    = omega (arith, within, ea, ap (λ (z : Limits). z.period) er) in
    let begun : new.from ≤ end_of events = omega (arith, told.after, ends) in
    let got : new.got ≡ count_between (counts counted sys events v) new.from (end_of events)
    = told.got ∙ ap (count_between (counts counted sys events v) new.from) ends in
    let is : tally
    ≡ cond (ltb new.from (end_of events)) (counted_on new.tally 1 false new.got (breach_of own false new.got))
    new.tally
    =
    et
    ∙ (ap (λ (z : Limits). cut_tally new (breach_of z false new.got)) er
    ∙ ap (λ (z : ℕ). cond (ltb new.from z) (counted_on new.tally 1 false new.got (breach_of own false new.got))
    new.tally) ends) in
    record {
      tallied =
          subst (IsTallyBy counted sys budgets events v) (sym is)
          (tally_on counted sys budgets events v t.start told.ended new.from new.got new.tally part some t.starts_at
          told.begun begun cut got told.tally);
      ended_over =
          ended_number counted sys budgets events v t.start told.ended new.from many part some t.starts_at told.begun
          begun cut (em ∙ told.tally.over);
      broken =
          subst (IsFirstOfVcpu counted sys budgets events v) (sym (eb
          ∙ ap (λ (z : Limits). first_broken new.broken (breach_of z false new.got) new.from new.got)
          er))
          (settled_broken counted sys budgets events v t.start told.ended new.from new.got new.broken
          (breach_of own false new.got) part some t.starts_at told.begun begun cut got refl told.broken);
    }

-- a VCPU that never started
pub unsettled : (counted : Counted) (sys : SystemView) (budgets : List ℕ) (events : List Event) (v : ℕ)
    → is_started events (length events) v ≡ false → IsSettled counted sys budgets events v no_tally 0 None
unsettled counted sys budgets events v off =
    let none : start_of events v ≡ None = go (last_among (starts v) events (length events)) off in
    record {
      tallied = tally_none counted sys budgets events v none;
      ended_over = none_has _ (λ k is. no_period sys events v is.0 k none is.1.over.period);
      broken = λ f k b breaks. no_period sys events v f k none breaks.period;
    }
  where
    go : (o : Option Event) → is_some o ≡ false → moment_of o ≡ None
    go None e = refl
    go (Some event) e = absurd (false≢true (sym e))

-- what is known of the entries of a list, with one entry more
pub entries_more : {T : Type 0} (Is : ℕ → T → Type 0) (d : T) (n : ℕ) (ts us : List T) (t : T) → length ts ≡ n
    → us ≡ ts ++ t ∷ [] → ((u : ℕ) → u < n → Is u (get_or ts u d)) → Is n t
    → (u : ℕ) → u < n + 1 → Is u (get_or us u d)
entries_more {T} Is d n ts us t long is each own u l = elim (cases_lt u n) [
  | inl before ↦
      subst (Is u) (sym (ap (λ (z : List T). get_or z u d) is
      ∙ get_or-append ts (t ∷ []) d u (let b : u < length ts = omega (arith, before, long) in b)))
      (each u before)
  | inr last ↦
      let at : u ≡ length ts = omega (arith, l, last, long) in
      subst (λ (z : ℕ). Is z (get_or us z d)) (sym at)
      (subst (Is (length ts))
      (sym (ap (λ (z : List T). get_or z (length ts) d) is ∙ get_or-append_seam ts t [] d))
      (subst (λ (z : ℕ). Is z t) (sym long) own))
]
