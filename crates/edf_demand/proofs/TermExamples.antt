-- Worked examples of terms, by hand. A wrong definition breaks one of them.
use Rattle.std.proofs.Common.{◌≡◌, ℕ, zero, suc, ◌<◌, [], ◌∷◌, get_or, refl, arith}
use Rattle.slot_model.specs.declared.task.Task.{Task}
use Rattle.window_terms.specs.declared.term.Term.{Term}
use Rattle.edf_demand.specs.declared.terms.Gathered.{Gathered}
use Rattle.window_terms.specs.Asked.{asked_by, IsNear}
use Rattle.edf_demand.specs.Terms.{IsGathered}
use Rattle.edf_demand.proofs.Gathering.{alone}

-- two tasks of 7 and 2 slots in 50 with a room of 45, and one of 9 slots in 75
abbrev first : Task
first =
    record {
      period = 50;
      deadline = 50;
      work = 7;
      jitter = 5;
      works = omega arith;
      in_deadline = omega arith;
      in_period = omega arith;
      in_limit = omega arith;
    }

abbrev second : Task
second =
    record {
      period = 50;
      deadline = 46;
      work = 2;
      jitter = 1;
      works = omega arith;
      in_deadline = omega arith;
      in_period = omega arith;
      in_limit = omega arith;
    }

abbrev both : Term
both =
    record {
      period = 50;
      slack = 5;
      work = 9;
      reciprocal = 368934881474191032;
      in_period = omega arith;
      in_limit = omega arith;
      is_reciprocal = refl;
    }

abbrev first_alone : Term
first_alone =
    record {
      period = 50;
      slack = 5;
      work = 7;
      reciprocal = 368934881474191032;
      in_period = omega arith;
      in_limit = omega arith;
      is_reciprocal = refl;
    }

abbrev second_alone : Term
second_alone =
    record {
      period = 50;
      slack = 5;
      work = 2;
      reciprocal = 368934881474191032;
      in_period = omega arith;
      in_limit = omega arith;
      is_reciprocal = refl;
    }

abbrev other : Term
other =
    record {
      period = 75;
      slack = 0;
      work = 9;
      reciprocal = 245956587649460688;
      in_period = omega arith;
      in_limit = omega arith;
      is_reciprocal = refl;
    }

nothing_falls_due_before_the_room : asked_by (both ∷ other ∷ []) 44 ≡ 0
nothing_falls_due_before_the_room = refl

both_fall_due_in_their_room : asked_by (both ∷ other ∷ []) 45 ≡ 9
both_fall_due_in_their_room = refl

the_other_falls_due_at_its_deadline : asked_by (both ∷ other ∷ []) 75 ≡ 18
the_other_falls_due_at_its_deadline = refl

both_fall_due_again_a_period_later : asked_by (both ∷ other ∷ []) 95 ≡ 27
both_fall_due_again_a_period_later = refl

abbrev one_for_two : Gathered
one_for_two = record { terms = 1; tasks = 2; near = 1 }

near_one : (k : ℕ) (d : Term) → k < 1 → IsNear (get_or (both ∷ []) k d) 1
near_one zero d l = omega arith
near_one (suc k) d l = absurd (omega arith)

-- the term of both stands for both, and the term of one does not
one_term_stands_for_both : IsGathered one_for_two (both ∷ []) (first ∷ second ∷ [])
one_term_stands_for_both =
    record {
      in_terms = omega arith;
      in_tasks = omega arith;
      same = λ t. omega (arith, alone first_alone first t refl refl refl, alone second_alone second t refl refl refl);
      near = near_one;
      fits = omega arith;
    }

the_term_of_one_does_not : IsGathered one_for_two (first_alone ∷ []) (first ∷ second ∷ []) → ⊥
the_term_of_one_does_not g = let wrong : 7 ≡ 9 = g.same 45 in absurd (omega (arith, wrong))

-- nor does a term that is not counted
a_term_past_the_count_does_not : IsGathered (record { terms = 0; tasks = 2; near = 1 }) (both ∷ [])
    (first ∷ second ∷ []) → ⊥
a_term_past_the_count_does_not g = let wrong : 0 ≡ 9 = g.same 45 in absurd (omega (arith, wrong))

-- nor does a window count as near that the reciprocal does not serve
a_window_past_the_reciprocal_is_not_near : IsGathered (record { terms = 1; tasks = 2; near = 368934881474191027 })
    (both ∷ []) (first ∷ second ∷ []) → ⊥
a_window_past_the_reciprocal_is_not_near g =
    let wrong : IsNear both 368934881474191027 = g.near 0 both (omega arith) in absurd (omega (arith, wrong))
