-- Worked examples of released work and of its bound, by hand. A wrong definition breaks one of
-- them.
use Rattle.std.proofs.Common.{◌≡◌, ℕ, zero, suc, ◌+◌, ◌<◌, ◌≤◌, true, List, [], ◌∷◌, refl, arith}
use Rattle.slot_model.specs.declared.job.Job.{Job}
use Rattle.slot_model.specs.Slots.{sum_below}
use Rattle.slot_model.specs.Task.{SporadicTask, plain_task, plain_job, job_at}
use Rattle.slot_model.specs.Release.{LegalRelease, fits_task}
use Rattle.slot_model.proofs.LegalJobs.{legal_where_apart}
use Rattle.fp_request.specs.Released.{work_released, RequestsBound}

abbrev job_of : ℕ → ℕ → ℕ → Job
job_of task release work = plain_job task release work

-- task 1 releases at 4, 9 and 14, and task 0 at 5
abbrev four_jobs : List Job
four_jobs = job_of 1 4 2 ∷ job_of 0 5 1 ∷ job_of 1 9 3 ∷ job_of 1 14 1 ∷ []

a_window_has_its_first_moment_and_not_its_end : work_released four_jobs 1 4 9 ≡ 2
unfolding sum_below
a_window_has_its_first_moment_and_not_its_end = refl

earlier_jobs_do_not_count : work_released four_jobs 1 5 10 ≡ 3
unfolding sum_below
earlier_jobs_do_not_count = refl

the_last_job_counts : work_released four_jobs 1 4 15 ≡ 2 + 3 + 1
unfolding sum_below
the_last_job_counts = refl

another_task_has_its_own : work_released four_jobs 0 4 15 ≡ 1
unfolding sum_below
another_task_has_its_own = refl

-- two tasks, the second of which releases one job far from the start
abbrev two_tasks : List SporadicTask
two_tasks = plain_task 9 9 1 ∷ plain_task 5 5 3 ∷ []

abbrev late_job : List Job
late_job = job_of 1 40 3 ∷ []

one_job_is_legal : LegalRelease two_tasks late_job
one_job_is_legal = legal_where_apart two_tasks late_job fits (λ i l j k m n. absurd (omega arith))
  where
    fits : (j : ℕ) → j < 1 → fits_task two_tasks (job_at late_job j) ≡ true
    fits zero l = refl
    fits (suc j) l = absurd (omega arith)

-- whatever bounds the requests of 5 slots bounds this job by the request of the last task, which is
-- 3
the_last_task_is_bounded_in_any_window : RequestsBound two_tasks 5 → work_released late_job 1 40 45 ≤ 3
the_last_task_is_bounded_in_any_window bounds = bounds late_job one_job_is_legal 1 40 (omega arith)
