-- Worked findings: A, with extra time and 1 slot in every 4, and B, with 2 slots in every 4, stand
-- on one core. A slot is 1,000 moments. A trace has one finding (`OneFinding`), so none of these
-- has another.
use Rattle.std.proofs.Common.{◌≡◌, ℕ, zero, suc, ◌≤◌, true, List, [], ◌∷◌, Some, refl, sym, ◌∙◌, subst, arith, inl, inr}
use Rattle.std.proofs.lemmas.Bool.{true≢false}
use Rattle.std.proofs.lemmas.Option.{same_Some}
use Rattle.csv_rows.specs.Last.{last_below}
use Rattle.slot_model.specs.Slots.{sum_below}
use Rattle.trace_file.specs.declared.event.Event.{Event}
use Rattle.trace_file.specs.declared.event.What.TheVariants.{Start, Run, Stop, End}
use Rattle.trace_file.specs.Events.{end_of, start_of}
use Rattle.trace_file.proofs.TraceExamples.{host, row}
use Rattle.trace_file.specs.Periods.{period_of, blocked, is_judged, got_in, judged_periods, HasPeriod, IsBroken, IsShort, IsOver, IsFirstBroken}
use Rattle.auditor.specs.declared.finding.Finding.TheVariants.{Yes, Short, Over}
use Rattle.auditor.specs.Finding.{IsFinding}

abbrev budgets : List ℕ
budgets = 1 ∷ 2 ∷ []

-- both start at 1000, A has the core up to a moment and B from there up to another, and the trace
-- ends with their first periods
abbrev shared : ℕ → ℕ → List Event
shared from to =
    row 1000 (Start 0) ∷ row 1000 (Start 1) ∷ row 1000 (Run 0) ∷ row from (Run 1) ∷ row to Stop ∷ row 5000 End ∷ []

module _ (events : List Event) (ends : end_of events ≡ 5000) (a_starts : start_of events 0 ≡ Some 1000)
    (b_starts : start_of events 1 ≡ Some 1000) where
  starts_at : (v f k : ℕ) → HasPeriod host events v f k → f ≡ 1000
  starts_at zero f k has = same_Some f 1000 (sym has.started ∙ a_starts)
  starts_at (suc zero) f k has = same_Some f 1000 (sym has.started ∙ b_starts)
  starts_at (suc (suc v)) f k has = absurd (omega (arith, has.is_part))

  the_first : (v f k : ℕ) → HasPeriod host events v f k → k ≡ 0
  the_first zero f k has = omega (arith, has.in_trace, ends, starts_at zero f k has)
  the_first (suc zero) f k has = omega (arith, has.in_trace, ends, starts_at (suc zero) f k has)
  the_first (suc (suc v)) f k has = absurd (omega (arith, has.is_part))

  time_is : (v f k : ℕ) → HasPeriod host events v f k → got_in host events v f k ≡ got_in host events v 1000 0
  time_is v f k has =
      subst (λ (g : ℕ). got_in host events v g k ≡ got_in host events v 1000 0) (sym (starts_at v f k has))
      (subst (λ (j : ℕ). got_in host events v 1000 j ≡ got_in host events v 1000 0) (sym (the_first v f k has)) refl)

  -- A with its budget is not broken, since it has extra time, and B is not with just its own
  a_keeps : 1000 ≤ got_in host events 0 1000 0 → (f k : ℕ) → IsBroken host budgets events 0 f k → ⊥
  a_keeps enough f k (inl b) = absurd (omega (arith, enough, b.short, time_is 0 f k b.period))
  a_keeps enough f k (inr b) = absurd (true≢false b.no_extra)

  b_keeps : got_in host events 1 1000 0 ≡ 2000 → (f k : ℕ) → IsBroken host budgets events 1 f k → ⊥
  b_keeps just f k (inl b) = absurd (omega (arith, just, b.short, time_is 1 f k b.period))
  b_keeps just f k (inr b) = absurd (omega (arith, just, b.over, time_is 1 f k b.period))

  -- no period begins before 1000, and where A keeps its budget none of A is the first broken one
  b_first : 1000 ≤ got_in host events 0 1000 0 → IsBroken host budgets events 1 1000 0
      → IsFirstBroken host budgets events 1 1000 0
  b_first enough broken = record {
    is_broken = broken;
    least = λ w g j b. omega (arith, starts_at w g j (period_in b));
    first = λ w g j l b.
        let of_a : w ≡ 0 = omega (arith, l) in
        absurd (a_keeps enough g j (subst (λ (u : ℕ). IsBroken host budgets events u g j) of_a b));
  }
    where
      period_in : {w g j : ℕ} → IsBroken host budgets events w g j → HasPeriod host events w g j
      period_in (inl b) = b.period
      period_in (inr b) = b.period

abbrev satisfied : List Event
satisfied = shared 2000 4000

abbrev too_little : List Event
too_little = shared 3800 5000

abbrev too_much : List Event
too_much = shared 2000 4001

satisfied_a : got_in host satisfied 0 1000 0 ≡ 1000
unfolding last_below sum_below
satisfied_a = refl

satisfied_b : got_in host satisfied 1 1000 0 ≡ 2000
unfolding last_below sum_below
satisfied_b = refl

satisfied_ends : end_of satisfied ≡ 5000
satisfied_ends = refl

satisfied_a_starts : start_of satisfied 0 ≡ Some 1000
unfolding last_below
satisfied_a_starts = refl

satisfied_b_starts : start_of satisfied 1 ≡ Some 1000
unfolding last_below
satisfied_b_starts = refl

both_judged : judged_periods host satisfied ≡ 2
unfolding last_below sum_below
both_judged = refl

-- each has just its budget
found_satisfied : IsFinding host budgets satisfied (Yes 2)
found_satisfied = (keeps, sym both_judged)
  where
    keeps : (v f k : ℕ) → IsBroken host budgets satisfied v f k → ⊥
    keeps zero f k b =
        a_keeps satisfied satisfied_ends satisfied_a_starts satisfied_b_starts (omega (arith, satisfied_a)) f k b
    keeps (suc zero) f k b =
        b_keeps satisfied satisfied_ends satisfied_a_starts satisfied_b_starts satisfied_b f k b
    keeps (suc (suc v)) f k (inl b) = absurd (omega (arith, b.period.is_part))
    keeps (suc (suc v)) f k (inr b) = absurd (omega (arith, b.period.is_part))

little_a : got_in host too_little 0 1000 0 ≡ 2800
unfolding last_below sum_below
little_a = refl

little_b : got_in host too_little 1 1000 0 ≡ 1200
unfolding last_below sum_below
little_b = refl

little_judged : is_judged (blocked too_little 1) (period_of host 1) 1000 (end_of too_little) 0 ≡ true
unfolding last_below sum_below
little_judged = refl

little_a_starts : start_of too_little 0 ≡ Some 1000
unfolding last_below
little_a_starts = refl

little_b_starts : start_of too_little 1 ≡ Some 1000
unfolding last_below
little_b_starts = refl

little_short : IsShort host budgets too_little 1 1000 0
little_short =
    record {
      period = record { is_part = omega arith; started = little_b_starts; in_trace = omega arith };
      judged = little_judged;
      short = omega (arith, little_b);
    }

found_too_little : IsFinding host budgets too_little (Short 1 1000 1200)
found_too_little = record {
  start = 1000;
  period = 0;
  short = little_short;
  found = record {
    first = b_first too_little refl little_a_starts little_b_starts (omega (arith, little_a)) (inl little_short);
    begins_at = refl;
    time = sym little_b;
  };
}

much_a : got_in host too_much 0 1000 0 ≡ 1000
unfolding last_below sum_below
much_a = refl

much_b : got_in host too_much 1 1000 0 ≡ 2001
unfolding last_below sum_below
much_b = refl

much_a_starts : start_of too_much 0 ≡ Some 1000
unfolding last_below
much_a_starts = refl

much_b_starts : start_of too_much 1 ≡ Some 1000
unfolding last_below
much_b_starts = refl

much_over : IsOver host budgets too_much 1 1000 0
much_over =
    record {
      period = record { is_part = omega arith; started = much_b_starts; in_trace = omega arith };
      no_extra = refl;
      over = omega (arith, much_b);
    }

found_too_much : IsFinding host budgets too_much (Over 1 1000 2001)
found_too_much = record {
  start = 1000;
  period = 0;
  over = much_over;
  found = record {
    first = b_first too_much refl much_a_starts much_b_starts (omega (arith, much_a)) (inr much_over);
    begins_at = refl;
    time = sym much_b;
  };
}
