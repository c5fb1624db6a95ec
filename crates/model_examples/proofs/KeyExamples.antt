-- Worked examples of keys, by hand. A wrong definition breaks one of them.
use Rattle.std.proofs.Common.{◌≡◌, true, false, List, [], ◌∷◌, refl, arith}
use Rattle.slot_model.specs.Task.{SporadicTask, jittery_task, plain_job, early_job, deadline_of}
use Rattle.slot_model.specs.Order.{key_less, key_of_numbers, edf_before, edf_key, IsKeyed}

the_smaller_rank_goes_first : key_less (key_of_numbers 1 9 9) (key_of_numbers 2 0 0) ≡ true
the_smaller_rank_goes_first = refl

the_larger_rank_does_not : key_less (key_of_numbers 2 0 0) (key_of_numbers 1 9 9) ≡ false
the_larger_rank_does_not = refl

of_equal_ranks_the_earlier_place : key_less (key_of_numbers 1 3 9) (key_of_numbers 1 4 0) ≡ true
of_equal_ranks_the_earlier_place = refl

and_not_the_later : key_less (key_of_numbers 1 4 0) (key_of_numbers 1 3 9) ≡ false
and_not_the_later = refl

of_equal_places_the_earlier_arrival : key_less (key_of_numbers 1 3 5) (key_of_numbers 1 3 6) ≡ true
of_equal_places_the_earlier_arrival = refl

no_key_is_less_than_itself : key_less (key_of_numbers 1 3 5) (key_of_numbers 1 3 5) ≡ false
no_key_is_less_than_itself = refl

-- a task of period 9, deadline 7, work 2 and jitter 3
abbrev jittery : List SporadicTask
jittery = jittery_task 9 7 2 3 ∷ []

the_deadline_counts_from_the_arrival : edf_key jittery (early_job 0 20 2 3) ≡ key_of_numbers 24 0 0
the_deadline_counts_from_the_arrival = refl

a_job_that_is_not_early_has_all_of_it : edf_key jittery (plain_job 0 20 2) ≡ key_of_numbers 27 0 0
a_job_that_is_not_early_has_all_of_it = refl

-- two jobs of one deadline moment have one key, and nothing tells them apart
equal_moments_stay_equal : edf_key jittery (early_job 0 20 2 3) ≡ edf_key jittery (early_job 0 17 2 0)
equal_moments_stay_equal = refl

-- the release alone is no key: released at 20 with 3 slots gone goes before released at 18
the_release_is_no_key_of_deadlines : IsKeyed jittery (edf_before jittery)
    (λ job. key_of_numbers job.release 0 0) → ⊥
the_release_is_no_key_of_deadlines keyed =
    let first : true ≡ false = keyed (early_job 0 20 2 3) (plain_job 0 18 2) (omega arith) (omega arith) in cc

-- nor is one that breaks a tie
abbrev twins : List SporadicTask
twins = jittery_task 9 7 2 3 ∷ jittery_task 12 7 2 3 ∷ []

the_place_breaks_no_tie_of_deadlines : IsKeyed twins (edf_before twins)
    (λ job. key_of_numbers (deadline_of twins job) job.task 0) → ⊥
the_place_breaks_no_tie_of_deadlines keyed =
    let first : false ≡ true = keyed (plain_job 0 18 2) (plain_job 1 18 2) (omega arith) (omega arith) in cc
