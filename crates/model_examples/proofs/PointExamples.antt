-- Worked examples of covers and chains, by hand. A wrong definition breaks one of them.
use Rattle.std.proofs.Common.{◌≡◌, ℕ, zero, suc, ◌+◌, ◌-◌, ◌<◌, ◌≤◌, List, [], ◌∷◌, get_or, refl, arith}
use Rattle.slot_model.specs.declared.sched.Sched.TheVariants.{Listed}
use Rattle.slot_model.specs.Slots.{sum_below}
use Rattle.slot_model.specs.Task.{SporadicTask, plain_task}
use Rattle.slot_model.specs.Order.{ranks_above}
use Rattle.slot_model.specs.Bound.{sbf, dbf, rbf}
use Rattle.slot_model.specs.Points.{IsCover, IsBackward, CoversShow, IsChain}
use Rattle.model_examples.proofs.BoundExamples.{two_tasks, with_jitter, too_much}

-- one task of 3 slots in 10, where a window of t slots has t

abbrev one_task : List SporadicTask
one_task = plain_task 10 10 3 ∷ []

abbrev from_three : List ℕ
from_three = 3 ∷ 12 ∷ []

three_slots_and_the_end_cover : IsCover one_task (λ t. t) 11 from_three
three_slots_and_the_end_cover =
    record {
      some_point = omega arith;
      some_slots = omega arith;
      none_before = refl;
      rising = rising;
      steps = steps;
      past = omega arith;
    }
  where
    rising : (j : ℕ) → j + 1 < 2 → get_or from_three j 0 < get_or from_three (j + 1) 0
    rising zero l = omega arith
    rising (suc j) l = absurd (omega arith)

    steps : (j : ℕ) → j + 1 < 2 → dbf one_task (get_or from_three (j + 1) 0 - 1) ≤ get_or from_three j 0
    steps zero l = omega arith
    steps (suc j) l = absurd (omega arith)

they_are_the_walk_backwards : IsBackward one_task (λ t. t) 11 from_three
they_are_the_walk_backwards = record { ends = refl; least = least }
  where
    least : (j u : ℕ) → j + 1 < 2 → u < get_or from_three j 0 → u < dbf one_task (get_or from_three (j + 1) 0 - 1)
    least zero u l m = omega (arith, m)
    least (suc j) u l m = absurd (omega arith)

-- what is due at the last point itself need not be given
the_end_counts_what_is_due_before_it : dbf one_task 20 ≡ 6
the_end_counts_what_is_due_before_it = refl

so_the_same_points_cover_up_to_nineteen : IsCover one_task (λ t. t) 19 (3 ∷ 20 ∷ [])
so_the_same_points_cover_up_to_nineteen =
    record {
      some_point = omega arith;
      some_slots = omega arith;
      none_before = refl;
      rising = rising;
      steps = steps;
      past = omega arith;
    }
  where
    rising : (j : ℕ) → j + 1 < 2 → get_or (3 ∷ 20 ∷ []) j 0 < get_or (3 ∷ 20 ∷ []) (j + 1) 0
    rising zero l = omega arith
    rising (suc j) l = absurd (omega arith)

    steps : (j : ℕ) → j + 1 < 2 → dbf one_task (get_or (3 ∷ 20 ∷ []) (j + 1) 0 - 1) ≤ get_or (3 ∷ 20 ∷ []) j 0
    steps zero l = omega arith
    steps (suc j) l = absurd (omega arith)

the_last_point_is_past_the_windows : IsCover one_task (λ t. t) 12 from_three → ⊥
the_last_point_is_past_the_windows cover = let past : 12 < 12 = cover.past in omega arith

two_slots_do_not_give_three : IsCover one_task (λ t. t) 11 (2 ∷ 12 ∷ []) → ⊥
two_slots_do_not_give_three cover = let step : 3 ≤ 2 = cover.steps 0 (omega arith) in omega arith

no_point_stands_twice : IsCover one_task (λ t. t) 11 (3 ∷ 3 ∷ 12 ∷ []) → ⊥
no_point_stands_twice cover = let rises : 3 < 3 = cover.rising 0 (omega arith) in omega arith

the_first_point_is_not_past_a_deadline : IsCover one_task (λ t. t) 11 (11 ∷ 12 ∷ []) → ⊥
the_first_point_is_not_past_a_deadline cover =
    let due : dbf one_task 10 ≡ 3 = refl in omega (arith, due, cover.none_before)

what_a_cover_shows_holds_at_its_end : CoversShow one_task (λ t. t) 11 → dbf one_task 11 ≤ 11
what_a_cover_shows_holds_at_its_end shows =
    shows from_three three_slots_and_the_end_cover 11 (omega arith) (omega arith)

no_points_are_no_cover : IsCover one_task (λ t. t) 11 [] → ⊥
no_points_are_no_cover cover = let some : 1 ≤ 0 = cover.some_point in omega arith

a_later_point_is_not_the_walk_backwards : IsBackward one_task (λ t. t) 11 (4 ∷ 12 ∷ []) → ⊥
a_later_point_is_not_the_walk_backwards walk =
    let less : 3 < 3 = walk.least 0 3 (omega arith) (omega arith) in omega arith

-- two tasks over 3 slots in each 10, up to 160

abbrev five_points : List ℕ
five_points = 35 ∷ 65 ∷ 86 ∷ 137 ∷ 161 ∷ []

five_points_cover : IsCover two_tasks (sbf 10 3) 160 five_points
five_points_cover =
    record {
      some_point = omega arith;
      some_slots = omega arith;
      none_before = refl;
      rising = rising;
      steps = steps;
      past = omega arith;
    }
  where
    rising : (j : ℕ) → j + 1 < 5 → get_or five_points j 0 < get_or five_points (j + 1) 0
    rising zero l = omega arith
    rising (suc zero) l = omega arith
    rising (suc (suc zero)) l = omega arith
    rising (suc (suc (suc zero))) l = omega arith
    rising (suc (suc (suc (suc j)))) l = absurd (omega arith)

    steps : (j : ℕ) → j + 1 < 5 → dbf two_tasks (get_or five_points (j + 1) 0 - 1) ≤ sbf 10 3 (get_or five_points j 0)
    steps zero l = omega arith
    steps (suc zero) l = omega arith
    steps (suc (suc zero)) l = omega arith
    steps (suc (suc (suc zero))) l = omega arith
    steps (suc (suc (suc (suc j)))) l = absurd (omega arith)

-- up to 95 three points are a cover, and with 5 slots of jitter at the first task they are none:
-- its second job is due by 95
abbrev three_points : List ℕ
three_points = 35 ∷ 65 ∷ 96 ∷ []

three_points_cover : IsCover two_tasks (sbf 10 3) 95 three_points
three_points_cover =
    record {
      some_point = omega arith;
      some_slots = omega arith;
      none_before = refl;
      rising = rising;
      steps = steps;
      past = omega arith;
    }
  where
    rising : (j : ℕ) → j + 1 < 3 → get_or three_points j 0 < get_or three_points (j + 1) 0
    rising zero l = omega arith
    rising (suc zero) l = omega arith
    rising (suc (suc j)) l = absurd (omega arith)

    steps : (j : ℕ) → j + 1 < 3 → dbf two_tasks (get_or three_points (j + 1) 0 - 1) ≤ sbf 10 3 (get_or three_points j 0)
    steps zero l = omega arith
    steps (suc zero) l = omega arith
    steps (suc (suc j)) l = absurd (omega arith)

with_jitter_they_do_not : IsCover with_jitter (sbf 10 3) 95 three_points → ⊥
with_jitter_they_do_not cover = let step : 23 ≤ 16 = cover.steps 1 (omega arith) in omega arith

with_one_point_more_they_do : IsCover with_jitter (sbf 10 3) 95 (35 ∷ 65 ∷ 86 ∷ 96 ∷ [])
with_one_point_more_they_do =
    record {
      some_point = omega arith;
      some_slots = omega arith;
      none_before = refl;
      rising = rising;
      steps = steps;
      past = omega arith;
    }
  where
    rising : (j : ℕ) → j + 1 < 4 → get_or (35 ∷ 65 ∷ 86 ∷ 96 ∷ []) j 0 < get_or (35 ∷ 65 ∷ 86 ∷ 96 ∷ []) (j + 1) 0
    rising zero l = omega arith
    rising (suc zero) l = omega arith
    rising (suc (suc zero)) l = omega arith
    rising (suc (suc (suc j))) l = absurd (omega arith)

    steps : (j : ℕ) → j + 1 < 4
        → dbf with_jitter (get_or (35 ∷ 65 ∷ 86 ∷ 96 ∷ []) (j + 1) 0 - 1)
        ≤ sbf 10 3 (get_or (35 ∷ 65 ∷ 86 ∷ 96 ∷ []) j 0)
    steps zero l = omega arith
    steps (suc zero) l = omega arith
    steps (suc (suc zero)) l = omega arith
    steps (suc (suc (suc j))) l = absurd (omega arith)

-- in its deadline of two slots the second task asks for one, behind two of the first

past_its_deadline_a_chain_ends : IsChain (ranks_above Listed too_much) too_much (λ t. t) 1 (1 ∷ 3 ∷ [])
unfolding sum_below
past_its_deadline_a_chain_ends =
    record { some_point = omega arith; from_one = refl; rising = rising; steps = steps; to_deadline = refl }
  where
    rising : (j : ℕ) → j + 1 < 2 → get_or (1 ∷ 3 ∷ []) j 0 < get_or (1 ∷ 3 ∷ []) (j + 1) 0
    rising zero l = omega arith
    rising (suc j) l = absurd (omega arith)

    steps : (j : ℕ) → j + 1 < 2
        → get_or (1 ∷ 3 ∷ []) (j + 1) 0 - 1 < rbf (ranks_above Listed too_much) too_much 1 (get_or (1 ∷ 3 ∷ []) j 0)
    steps zero l = omega arith
    steps (suc j) l = absurd (omega arith)

a_chain_begins_at_one : IsChain (ranks_above Listed too_much) too_much (λ t. t) 1 (2 ∷ 3 ∷ []) → ⊥
a_chain_begins_at_one chain = let one : 2 ≡ 1 = chain.from_one in omega (arith, one)

a_chain_does_not_end_at_the_deadline : IsChain (ranks_above Listed too_much) too_much (λ t. t) 1 (1 ∷ 2 ∷ []) → ⊥
a_chain_does_not_end_at_the_deadline chain = let past : 2 ≡ 3 = chain.to_deadline in omega (arith, past)

with_a_slot_more_the_work_is_given : IsChain (ranks_above Listed too_much) too_much (λ t. suc t) 1 (1 ∷ 3 ∷ []) → ⊥
unfolding sum_below
with_a_slot_more_the_work_is_given chain = let less : 3 < 3 = chain.steps 0 (omega arith) in omega arith
