-- A worked tally: A has its core for 1 slot in every 2 and no extra time. A slot is 1,000 moments.
-- Its first period is over, its second is short, in its third it is blocked, and the end cuts its
-- fourth. A fifth would begin after the end.
use Rattle.std.proofs.Common.{◌≡◌, ℕ, zero, suc, ◌*◌, ◌+◌, ◌<◌, ◌≤◌, Bool, true, false, ltb, leb, ◌&&◌, List, [], ◌∷◌, Some, None, refl, sym, ◌∙◌, subst, arith, leb-true}
use Rattle.std.proofs.lemmas.Bool.{and_parts, and_from, lt-ltb, ltb-true, false≢true}
use Rattle.std.proofs.lemmas.Option.{same_Some}
use Rattle.csv_rows.specs.Last.{last_below}
use Rattle.slot_model.specs.Slots.{sum_below, count_below}
use Rattle.slot_model.specs.Task.{plain_task}
use Rattle.slot_model.specs.declared.sched.Sched.TheVariants.{Edf}
use Rattle.tree_model.specs.declared.place.Parent.TheVariants.{Core as on_core}
use Rattle.tree_model.specs.View.{SystemView}
use Rattle.trace_file.specs.declared.event.Event.{Event}
use Rattle.trace_file.specs.declared.event.What.{What}
use Rattle.trace_file.specs.declared.event.What.TheVariants.{Start, Wake, Block, Run, Stop, End}
use Rattle.trace_file.specs.Events.{start_of}
use Rattle.trace_file.specs.Periods.{blocked, is_clear, is_judged, got_in, HasPeriod, IsShort, IsOver}
use Rattle.vcpu_watch.specs.declared.tally.Tally.{Tally}
use Rattle.auditor.specs.Tally.{IsJudged, IsTally}
use Rattle.vcpu_watch.proofs.Tallying.{count_true}
use Rattle.auditor.proofs.OneTally.{one_tally}

abbrev pub host : SystemView
host = record {
  cores = record { name = 99 ∷ []; sched = Edf; supply = None } ∷ [];
  parts =
      record {
        name = 65 ∷ [];
        parent = on_core 0;
        sched = Edf;
        period = 2;
        budget = Some 1;
        extra = false;
        tasks = record { name = 116 ∷ []; task = plain_task 100 100 1 } ∷ [];
      } ∷ [];
}

abbrev row : ℕ → What → Event
row at what = record { at = at; core = 0; what = what }

abbrev worked : List Event
worked =
    row 0 (Start 0) ∷ row 0 (Run 0) ∷ row 1400 Stop ∷ row 2000 (Run 0) ∷ row 2500 Stop ∷ row 4100 (Block 0)
    ∷ row 4200 (Wake 0) ∷ row 6100 (Run 0) ∷ row 6400 Stop ∷ row 6500 End ∷ []

abbrev judged : ℕ → Bool
judged k = is_judged (blocked worked 0) 2000 0 6500 k

abbrev time : ℕ → ℕ
time k = got_in host worked 0 0 k

blocked_third : judged 2 ≡ false
unfolding last_below sum_below
blocked_third = refl

first_time : time 0 ≡ 1400
unfolding last_below sum_below
first_time = refl

second_time : time 1 ≡ 500
unfolding last_below sum_below
second_time = refl

third_time : time 2 ≡ 0
unfolding last_below sum_below
third_time = refl

last_time : time 3 ≡ 300
unfolding last_below sum_below
last_time = refl

starts_at_0 : start_of worked 0 ≡ Some 0
unfolding last_below
starts_at_0 = refl

second_judged : judged 1 ≡ true
unfolding last_below sum_below
second_judged = refl

-- its periods are the first four
has : (k : ℕ) → k < 4 → HasPeriod host worked 0 0 k
has k l = record { is_part = omega arith; started = starts_at_0; in_trace = omega arith }

from_0 : (f k : ℕ) → HasPeriod host worked 0 f k → f ≡ 0
from_0 f k h = same_Some f 0 (sym h.started ∙ starts_at_0)

one_of_four : (f k : ℕ) → HasPeriod host worked 0 f k → k < 4
one_of_four f k h = omega (arith, h.in_trace, from_0 f k h)

two_are_judged : (k : ℕ) → judged k ≡ true → k < 2
two_are_judged zero e = omega arith
two_are_judged (suc zero) e = omega arith
two_are_judged (suc (suc zero)) e = absurd (false≢true (sym blocked_third ∙ e))
two_are_judged (suc (suc (suc k))) e =
    let ends : 0 + suc (suc (suc (suc k))) * 2000 ≤ 6500
    = leb-true (0 + suc (suc (suc (suc k))) * 2000) 6500 (and_parts (leb (0 + suc (suc (suc (suc k))) * 2000) 6500)
    (is_clear (blocked worked 0) 2000 0 (suc (suc (suc k)))) e).0 in
    absurd (omega (arith, ends))

least_time : (k : ℕ) → k < 2 → 500 ≤ time k
least_time zero l = omega (arith, first_time)
least_time (suc zero) l = omega (arith, second_time)
least_time (suc (suc k)) l = absurd (omega arith)

most_time : (k : ℕ) → k < 4 → time k ≤ 1400
most_time zero l = omega (arith, first_time)
most_time (suc zero) l = omega (arith, second_time)
most_time (suc (suc zero)) l = omega (arith, third_time)
most_time (suc (suc (suc zero))) l = omega (arith, last_time)
most_time (suc (suc (suc (suc k)))) l = absurd (omega arith)

abbrev worked_tally : Tally
worked_tally = record { begun = 4; judged = 2; short = 1; over = 1; least = Some 500; most = Some 1400 }

judged_count : 2 ≡ count_below judged 4
unfolding last_below sum_below
judged_count = refl

short_count : 1 ≡ count_below (λ k. judged k && ltb (time k) 1000) 4
unfolding last_below sum_below
short_count = refl

over_count : 1 ≡ count_below (λ k. ltb 1000 (time k)) 4
unfolding last_below sum_below
over_count = refl

of_worked : IsTally host (1 ∷ []) worked 0 worked_tally
of_worked = record {
  begun =
      record {
        test = λ _. true;
        limit = 4;
        have = λ k l _. (0, has k l);
        pass = λ k is. (one_of_four is.0 k is.1, refl);
        count = sym (count_true 4);
      };
  judged = record {
    test = judged;
    limit = 4;
    have = λ k l e. (0, record { period = has k l; judged = e });
    pass =
        λ k is. (
          one_of_four is.0 k is.1.period,
          (subst (λ (f : ℕ). IsJudged host worked 0 f k) (from_0 is.0 k is.1.period) is.1).judged,
        );
    count = judged_count;
  };
  short = record {
    test = λ k. judged k && ltb (time k) 1000;
    limit = 4;
    have =
        λ k l e. let parts =
        and_parts (judged k) (ltb (time k) 1000) e in
        (0, record { period = has k l; judged = parts.0; short = ltb-true (time k) 1000 parts.1 });
    pass = λ k is.
        let own : IsShort host (1 ∷ []) worked 0 0 k
        = subst (λ (f : ℕ). IsShort host (1 ∷ []) worked 0 f k) (from_0 is.0 k is.1.period) is.1 in (
          one_of_four 0 k own.period,
          and_from (judged k) (ltb (time k) 1000) own.judged (lt-ltb (time k) 1000 own.short),
        );
    count = short_count;
  };
  over = record {
    test = λ k. ltb 1000 (time k);
    limit = 4;
    have = λ k l e. (0, record { period = has k l; no_extra = refl; over = ltb-true 1000 (time k) e });
    pass = λ k is.
        let own : IsOver host (1 ∷ []) worked 0 0 k
        = subst (λ (f : ℕ). IsOver host (1 ∷ []) worked 0 f k) (from_0 is.0 k is.1.period) is.1 in
        (one_of_four 0 k own.period, lt-ltb 1000 (time k) own.over);
    count = over_count;
  };
  least = record {
    is =
        record
        { f = 0; k = 1; is = record { period = has 1 (omega arith); judged = second_judged }; time = sym second_time };
    least = λ y is.
        let own : IsJudged host worked 0 0 is.k
        = subst (λ (f : ℕ). IsJudged host worked 0 f is.k) (from_0 is.f is.k is.is.period) is.is in
        let time_is : y ≡ time is.k
        = subst (λ (f : ℕ). y ≡ got_in host worked 0 f is.k) (from_0 is.f is.k is.is.period) is.time in
        omega (arith, time_is, least_time is.k (two_are_judged is.k own.judged));
  };
  most = record {
    is = record { f = 0; k = 0; is = has 0 (omega arith); time = sym first_time };
    most = λ y is.
        let time_is : y ≡ time is.k
        = subst (λ (f : ℕ). y ≡ got_in host worked 0 f is.k) (from_0 is.f is.k is.is) is.time in
        omega (arith, time_is, most_time is.k (one_of_four is.f is.k is.is));
  };
}

-- and no other tally is that of A
the_tally_of_a : (t : Tally) → IsTally host (1 ∷ []) worked 0 t → t ≡ worked_tally
the_tally_of_a t h = one_tally host (1 ∷ []) worked 0 t worked_tally h of_worked
