-- What is counted of a run of six slots, counted by hand. A wrong definition breaks one of these.
use Rattle.std.proofs.Common.{◌≡◌, ℕ, zero, suc, ◌≤◌, Bool, true, false, List, [], ◌∷◌, Option, Some, None, arith, refl}
use Rattle.slot_model.specs.declared.job.Job.{Job}
use Rattle.slot_model.specs.Slots.{sum_below, count_below}
use Rattle.slot_model.specs.Task.{SporadicTask, job_at, deadline_of, plain_task, plain_job}
use Rattle.slot_model.specs.Miss.{Missed, NoneMissed}
use Rattle.span_counts.specs.Counts.{is_early, AreCounts}

-- one job of two slots that is due at 4, one that is due as the run ends, and one that comes then
abbrev tasks : List SporadicTask
tasks = plain_task 9 4 2 ∷ plain_task 9 3 2 ∷ plain_task 9 2 1 ∷ []

abbrev jobs : List Job
jobs = plain_job 0 0 2 ∷ plain_job 1 3 2 ∷ plain_job 2 6 1 ∷ []

abbrev slots : List Bool
slots = true ∷ true ∷ false ∷ true ∷ true ∷ true ∷ []

abbrev run : List (Option ℕ)
run = None ∷ Some 0 ∷ None ∷ None ∷ Some 1 ∷ None ∷ []

-- a job is early where it is released before the end, and not at it
one_comes_at_the_end : count_below (is_early jobs 6) 3 ≡ 2
unfolding sum_below
one_comes_at_the_end = refl

the_first_misses : Missed tasks jobs run 0
unfolding sum_below
the_first_misses = record { is_job = omega arith; in_run = omega arith; short = omega arith }

-- five slots are given, the first and the last among them, two jobs are released, and each of these
-- lacks a slot of its two
two_jobs_miss : AreCounts tasks jobs slots run (record {
  given = 5;
  released = 2;
  missed = 2;
  first = Some (record { task = 0; release = 0; deadline = 4; got = 1; work = 2 });
})
unfolding sum_below
two_jobs_miss = record {
  given = refl;
  released = refl;
  missed = refl;
  none = (
    λ z. absurd (omega arith),
    λ (none : NoneMissed tasks jobs run). absurd (none 0 the_first_misses),
  );
  first = (
    0,
    record { missed = the_first_misses; least = least; first = λ k l m. absurd (omega arith) },
    refl,
  );
}
  where
    least : (k : ℕ) → Missed tasks jobs run k → 4 ≤ deadline_of tasks (job_at jobs k)
    least zero m = omega arith
    least (suc zero) m = omega arith
    least (suc (suc zero)) m = omega arith
    least (suc (suc (suc k))) m = absurd (omega (arith, m.is_job))
