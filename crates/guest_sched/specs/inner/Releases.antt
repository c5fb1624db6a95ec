-- The releases of jobs in time.
use Rattle.std.specs.Prelude.{◌≡◌, ℕ, ◌<◌, ◌≤◌, List, length, slice_index_or}
use Rattle.slot_model.specs.declared.job.Job.{Job}
use Rattle.slot_model.specs.Task.{job_at}
use Rattle.guest_sched.specs.declared.releases.Release.{Release}

abbrev pub release_of : List Job → ℕ → Release
release_of jobs j = record { release = (job_at jobs j).release; place = j }

abbrev pub release_at : List Release → ℕ → Release
release_at releases i = slice_index_or releases i (record { release = 0; place = 0 })

-- the releases of all jobs, each once, by release
pub record AreReleases (jobs : List Job) (releases : List Release) : Type 0 where
  pub in_jobs : (i : ℕ) → i < length releases → (release_at releases i).place < length jobs
  pub of_job : (i : ℕ) → i < length releases →
      (release_at releases i).release ≡ (job_at jobs (release_at releases i).place).release
  pub every : (j : ℕ) → j < length jobs → (i : ℕ) × (i < length releases) ×
      ((release_at releases i).place ≡ j)
  pub once : (i k : ℕ) → i < length releases → k < length releases →
      (release_at releases i).place ≡ (release_at releases k).place → i ≡ k
  pub in_order : (i k : ℕ) → i ≤ k → k < length releases →
      (release_at releases i).release ≤ (release_at releases k).release
