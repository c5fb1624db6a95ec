-- Which job is the first of its task, by hand; and what is said of the run of a replay. A
-- definition that says less breaks one of these.
use Rattle.std.proofs.Common.{◌≡◌, ℕ, zero, suc, ◌<◌, Bool, List, [], ◌∷◌, Option, refl, arith}
use Rattle.slot_model.specs.declared.job.Job.{Job}
use Rattle.slot_model.specs.Task.{SporadicTask, job_at, plain_job}
use Rattle.slot_model.specs.Release.{synchronous}
use Rattle.slot_model.specs.Run.{guest, FirstRun}
use Rattle.slot_model.specs.Miss.{WorstList}
use Rattle.response_times.specs.Response.{IsResponse}
use Rattle.response_times.specs.Replay.{IsFirstJob, IsWorstRun, ShowsResponse}

-- a job of the second task, one of the first, and another of the second
abbrev three_jobs : List Job
three_jobs = plain_job 1 2 2 ∷ plain_job 0 2 3 ∷ plain_job 1 7 2 ∷ []

first_of_the_second_task : IsFirstJob three_jobs 1 0
first_of_the_second_task = record { is_job = omega arith; mine = refl; none_before = λ k l. absurd (omega arith) }

first_of_the_first_task : IsFirstJob three_jobs 0 1
first_of_the_first_task = record { is_job = omega arith; mine = refl; none_before = none }
  where
    none : (k : ℕ) → k < 1 → (job_at three_jobs k).task ≡ 0 → ⊥
    none zero l e = absurd (omega (arith, e))
    none (suc k) l e = absurd (omega arith)

not_a_later_one : IsFirstJob three_jobs 1 2 → ⊥
not_a_later_one h = h.none_before 0 (omega arith) refl

not_one_of_another_task : IsFirstJob three_jobs 0 0 → ⊥
not_one_of_another_task h = omega (arith, h.mine)

-- what is said of a response that is shown
what_is_shown : (before : Job → Job → Bool) (tasks : List SporadicTask) (pattern : ℕ → Bool) (start span i t : ℕ)
    → ShowsResponse before tasks pattern start span i t
    → (run : List (Option ℕ)) × IsWorstRun before tasks pattern start span run
    × ((job : ℕ) × IsFirstJob (synchronous tasks start span) i job
    × IsResponse (synchronous tasks start span) run job t)
what_is_shown before tasks pattern start span i t h = (h.run, h.is_worst, (h.job, h.first_job, h.responds))

-- and of the run: the worst pattern up to its end, and all tasks released at the start
what_worst_says : (before : Job → Job → Bool) (tasks : List SporadicTask) (pattern : ℕ → Bool) (start span : ℕ)
    (run : List (Option ℕ)) → IsWorstRun before tasks pattern start span run
    → (slots : List Bool) × WorstList pattern start span slots
    × FirstRun guest before tasks (synchronous tasks start span) slots run
what_worst_says before tasks pattern start span run h = (h.slots, h.worst, h.first_run)
