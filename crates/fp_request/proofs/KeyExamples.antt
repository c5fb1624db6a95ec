-- Worked examples of the keys of fixed orders, by hand. A wrong definition breaks one of them.
use Rattle.std.proofs.Common.{◌≡◌, true, false, List, [], ◌∷◌, refl, arith}
use Rattle.slot_model.specs.Task.{SporadicTask, jittery_task, plain_job, early_job}
use Rattle.slot_model.specs.declared.sched.Sched.TheVariants.{Rm, Dm, Listed}
use Rattle.slot_model.specs.Order.{before_of, key_of_numbers, IsKeyed}
use Rattle.fp_request.specs.Keys.{fixed_key}

-- period 9 with deadline 7 and jitter 3, and period 12 with deadline 5
abbrev pair : List SporadicTask
pair = jittery_task 9 7 2 3 ∷ jittery_task 12 5 2 0 ∷ []

rate_monotonic_goes_by_the_period : fixed_key Rm pair (plain_job 1 20 2) ≡ key_of_numbers 12 1 20
rate_monotonic_goes_by_the_period = refl

deadline_monotonic_by_the_deadline : fixed_key Dm pair (plain_job 1 20 2) ≡ key_of_numbers 5 1 20
deadline_monotonic_by_the_deadline = refl

the_list_by_the_place_alone : fixed_key Listed pair (plain_job 1 20 2) ≡ key_of_numbers 0 1 20
the_list_by_the_place_alone = refl

a_job_that_arrived_early_has_the_smaller_key : fixed_key Rm pair (early_job 0 20 2 3) ≡ key_of_numbers 9 0 20
a_job_that_arrived_early_has_the_smaller_key = refl

than_one_that_did_not : fixed_key Rm pair (early_job 0 20 2 1) ≡ key_of_numbers 9 0 22
than_one_that_did_not = refl

-- a job may have arrived before moment 0
an_arrival_before_the_first_moment_counts : fixed_key Rm pair (early_job 0 0 2 3) ≡ key_of_numbers 9 0 0
an_arrival_before_the_first_moment_counts = refl

-- released at 20, 3 slots after it arrived, goes before released at 18 as it arrived
the_release_is_no_key_in_a_task : IsKeyed pair (before_of Rm pair) (λ job. key_of_numbers 9 job.task job.release)
    → ⊥
the_release_is_no_key_in_a_task keyed =
    let first : true ≡ false = keyed (early_job 0 20 2 3) (plain_job 0 18 2) (omega arith) (omega arith) in cc

-- of two tasks of one period all jobs of the first go first
abbrev twins : List SporadicTask
twins = jittery_task 9 7 2 3 ∷ jittery_task 9 5 2 0 ∷ []

the_arrival_does_not_come_before_the_place : IsKeyed twins (before_of Rm twins) (λ job. key_of_numbers 9 0 job.release)
    → ⊥
the_arrival_does_not_come_before_the_place keyed =
    let first : true ≡ false = keyed (plain_job 0 20 2) (plain_job 1 18 2) (omega arith) (omega arith) in cc
