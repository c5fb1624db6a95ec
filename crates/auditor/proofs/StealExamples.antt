-- Worked times that are stolen. A has its core for 1 slot in every 2, so that 1,000 of the 2,000
-- moments of a period may be stolen. It starts at 1000, and what is before does not count. In its
-- first period it sleeps twice, and of the rest just 1,000 moments are stolen. In its second 1,001
-- are, in its third none, and the end cuts its fourth. A trace has one finding and one tally
-- (`OneSteal`), so none of these has another.
use Rattle.std.proofs.Common.{◌≡◌, ℕ, zero, suc, ◌+◌, ◌<◌, ◌≤◌, true, ltb, leb, List, [], ◌∷◌, Some, refl, sym, ◌∙◌, subst, arith, leb-true, inl, inr}
use Rattle.std.proofs.lemmas.Bool.{cases_lt, lt-ltb, le-leb, ltb-true}
use Rattle.std.proofs.lemmas.Option.{same_Some}
use Rattle.csv_rows.specs.Last.{last_below}
use Rattle.slot_model.specs.Slots.{sum_below, count_below}
use Rattle.trace_file.specs.declared.event.Event.{Event}
use Rattle.trace_file.specs.declared.event.What.TheVariants.{Start, Wake, Block, Run, Stop, End}
use Rattle.trace_file.specs.Events.{start_of}
use Rattle.trace_file.specs.Periods.{period_of, begins, HasPeriod}
use Rattle.trace_file.proofs.TraceExamples.{row, host as two_vcpus}
use Rattle.vcpu_watch.proofs.Tallying.{count_true}
use Rattle.auditor.specs.declared.steal.StealFinding.TheVariants.{Denied}
use Rattle.auditor.specs.declared.steal.StealTally.{StealTally}
use Rattle.auditor.specs.Steal.{stolen_of, IsDenied, IsKept, IsStealFinding, IsStealTally}
use Rattle.auditor.proofs.TallyExamples.{host}

abbrev worked : ℕ → List Event
worked end =
    row 1000 (Start 0) ∷ row 1100 (Block 0) ∷ row 1300 (Wake 0) ∷ row 1500 (Run 0) ∷ row 1800 Stop ∷ row 1800 (Block 0)
    ∷ row 2000 (Wake 0) ∷ row 2700 (Run 0) ∷ row 3999 Stop ∷ row 5000 (Run 0) ∷ row 7000 Stop ∷ row end End ∷ []

abbrev stolen : ℕ → ℕ → ℕ
stolen end k = stolen_of host (worked end) 0 1000 k

-- 100 before it sleeps, 200 and 700 after it woke
first_time : stolen 8000 0 ≡ 1000
unfolding last_below sum_below
first_time = refl

second_time : stolen 8000 1 ≡ 1001
unfolding last_below sum_below
second_time = refl

third_time : stolen 8000 2 ≡ 0
unfolding last_below sum_below
third_time = refl

-- of the cut period just what may be, and where the trace is a moment longer one more
last_time : stolen 8000 3 ≡ 1000
unfolding last_below sum_below
last_time = refl

later_time : stolen 8001 3 ≡ 1001
unfolding last_below sum_below
later_time = refl

starts_at_1000 : start_of (worked 8000) 0 ≡ Some 1000
unfolding last_below
starts_at_1000 = refl

later_starts : start_of (worked 8001) 0 ≡ Some 1000
unfolding last_below
later_starts = refl

cut_denied : IsDenied host (1 ∷ []) (worked 8001) 0 1000 3
cut_denied = record {
  period = record { is_part = omega arith; started = later_starts; in_trace = omega arith };
  denied = omega (arith, later_time);
}

-- its periods are the first four
has : (k : ℕ) → k < 4 → HasPeriod host (worked 8000) 0 1000 k
has k l = record { is_part = omega arith; started = starts_at_1000; in_trace = omega arith }

from_1000 : (f k : ℕ) → HasPeriod host (worked 8000) 0 f k → f ≡ 1000
from_1000 f k h = same_Some f 1000 (sym h.started ∙ starts_at_1000)

one_of_four : (f k : ℕ) → HasPeriod host (worked 8000) 0 f k → k < 4
one_of_four f k h = omega (arith, h.in_trace, from_1000 f k h)

most_time : (k : ℕ) → k < 4 → stolen 8000 k ≤ 1001
most_time zero l = omega (arith, first_time)
most_time (suc zero) l = omega (arith, second_time)
most_time (suc (suc zero)) l = omega (arith, third_time)
most_time (suc (suc (suc zero))) l = omega (arith, last_time)
most_time (suc (suc (suc (suc k)))) l = absurd (omega arith)

abbrev worked_tally : StealTally
worked_tally = record { begun = 4; kept = 2; denied = 1; most = Some 1001 }

kept_count : 2 ≡ count_below (λ k. leb (stolen 8000 k + 1000) 2000) 3
unfolding last_below sum_below
kept_count = refl

denied_count : 1 ≡ count_below (λ k. ltb 2000 (stolen 8000 k + 1000)) 4
unfolding last_below sum_below
denied_count = refl

own_kept : (f k : ℕ) → IsKept host (1 ∷ []) (worked 8000) 0 f k → IsKept host (1 ∷ []) (worked 8000) 0 1000 k
own_kept f k is = subst (λ (z : ℕ). IsKept host (1 ∷ []) (worked 8000) 0 z k) (from_1000 f k is.period) is

own_denied : (f k : ℕ) → IsDenied host (1 ∷ []) (worked 8000) 0 f k → IsDenied host (1 ∷ []) (worked 8000) 0 1000 k
own_denied f k is = subst (λ (z : ℕ). IsDenied host (1 ∷ []) (worked 8000) 0 z k) (from_1000 f k is.period) is

of_worked : IsStealTally host (1 ∷ []) (worked 8000) 0 worked_tally
of_worked = record {
  begun =
      record {
        test = λ _. true;
        limit = 4;
        have = λ k l _. (1000, has k l);
        pass = λ k is. (one_of_four is.0 k is.1, refl);
        count = sym (count_true 4);
      };
  kept = record {
    test = λ k. leb (stolen 8000 k + 1000) 2000;
    limit = 3;
    have =
        λ k l e. (
          1000,
          record {
            period = has k (omega (arith, l));
            ended = omega (arith, l);
            kept = leb-true (stolen 8000 k + 1000) 2000 e;
          },
        );
    pass = λ k is.
        let own = own_kept is.0 k is.1 in
        (omega (arith, own.ended), le-leb (stolen 8000 k + 1000) 2000 own.kept);
    count = kept_count;
  };
  denied = record {
    test = λ k. ltb 2000 (stolen 8000 k + 1000);
    limit = 4;
    have = λ k l e. (1000, record { period = has k l; denied = ltb-true 2000 (stolen 8000 k + 1000) e });
    pass = λ k is.
        let own = own_denied is.0 k is.1 in
        (one_of_four 1000 k own.period, lt-ltb 2000 (stolen 8000 k + 1000) own.denied);
    count = denied_count;
  };
  most = record {
    is = record { f = 1000; k = 1; period = has 1 (omega arith); time = sym second_time };
    most = λ y is.
        let time_is : y ≡ stolen 8000 is.k
        = subst (λ (f : ℕ). y ≡ stolen_of host (worked 8000) 0 f is.k) (from_1000 is.f is.k is.period) is.time in
        omega (arith, time_is, most_time is.k (one_of_four is.f is.k is.period));
  };
}

-- the second period is the first that is denied
not_first : (k : ℕ) → k < 1 → IsDenied host (1 ∷ []) (worked 8000) 0 1000 k → ⊥
not_first zero l is = omega (arith, is.denied, first_time)
not_first (suc k) l is = omega (arith, l)

of_a : (w g j : ℕ) → IsDenied host (1 ∷ []) (worked 8000) w g j → w ≡ 0
of_a w g j is = omega (arith, is.period.is_part)

finding_of_worked : IsStealFinding host (1 ∷ []) (worked 8000) (Denied 0 3000 1001)
finding_of_worked = record {
  start = 1000;
  period = 1;
  first =
      record {
        denied = record { period = has 1 (omega arith); denied = omega (arith, second_time) };
        least =
            λ w g j is. let own =
            own_denied g j (subst (λ (z : ℕ). IsDenied host (1 ∷ []) (worked 8000) z g j) (of_a w g j is) is) in
            subst (λ (z : ℕ). 3000 ≤ begins (period_of host z) g j) (sym (of_a w g j is))
            (elim (cases_lt j 1) [
              | inl sooner ↦ absurd (not_first j sooner own)
              | inr later ↦
                  let at = from_1000 g j (subst (λ (z : ℕ). HasPeriod host (worked 8000) z g j)
                  (of_a w g j is) is.period)
                  in omega (arith, later, at)
            ]);
        first = λ w g j l. absurd (omega (arith, l));
      };
  begins_at = refl;
  time = sym second_time;
}

-- Two VCPUs start together and neither ever has the core: of periods that begin together the one of
-- the first in the file is told, though of the other more than it may be stolen too.
abbrev tied : List Event
tied = row 1000 (Start 0) ∷ row 1000 (Start 1) ∷ row 5000 End ∷ []

tied_time : stolen_of two_vcpus tied 0 1000 0 ≡ 4000
unfolding last_below sum_below
tied_time = refl

other_time : stolen_of two_vcpus tied 1 1000 0 ≡ 4000
unfolding last_below sum_below
other_time = refl

a_starts : start_of tied 0 ≡ Some 1000
unfolding last_below
a_starts = refl

b_starts : start_of tied 1 ≡ Some 1000
unfolding last_below
b_starts = refl

other_denied : IsDenied two_vcpus (1 ∷ 2 ∷ []) tied 1 1000 0
other_denied = record {
  period = record { is_part = omega arith; started = b_starts; in_trace = omega arith };
  denied = omega (arith, other_time);
}

tied_start : (w g j : ℕ) → HasPeriod two_vcpus tied w g j → g ≡ 1000
tied_start zero g j h = same_Some g 1000 (sym h.started ∙ a_starts)
tied_start (suc zero) g j h = same_Some g 1000 (sym h.started ∙ b_starts)
tied_start (suc (suc w)) g j h = absurd (omega (arith, h.is_part))

finding_of_tied : IsStealFinding two_vcpus (1 ∷ 2 ∷ []) tied (Denied 0 1000 4000)
finding_of_tied = record {
  start = 1000;
  period = 0;
  first =
      record {
        denied = record {
          period = record { is_part = omega arith; started = a_starts; in_trace = omega arith };
          denied = omega (arith, tied_time);
        };
        least = λ w g j is. omega (arith, tied_start w g j is.period);
        first = λ w g j l. absurd (omega (arith, l));
      };
  begins_at = refl;
  time = sym tied_time;
}
