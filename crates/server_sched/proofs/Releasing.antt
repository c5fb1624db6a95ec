-- Where the jobs of servers stand among all: each moment's after those of earlier ones.
use Rattle.std.proofs.Common.{◌≡◌, ℕ, suc, ◌+◌, ◌<◌, ◌≤◌, true, List, length, ◌∙◌, ap, arith}
use Rattle.slot_model.specs.Task.{SporadicTask, task_at, job_at, default_job}
use Rattle.slot_model.specs.Release.{releases_now, task_releases, release_of, releases_at, synchronous}
use Rattle.slot_model.specs.declared.job.Job.{Job}
use Rattle.slot_model.proofs.Gathered.{Source, source, source_is, source_late, gathered_longer, stand_there, stands_within, stands_there}
use Rattle.slot_model.proofs.Synchronous.{each_release}

-- the jobs released before a moment, and before a later one
pub more_moments : (T : List SporadicTask) (y n : ℕ) → y ≤ n → length (synchronous T 0 y) ≤ length (synchronous T 0 n)
unfolding synchronous
more_moments T = gathered_longer (task_releases T) (release_of T 0) (length T) default_job

-- the jobs after the first p tasks of a moment
abbrev pub come_by : List SporadicTask → ℕ → ℕ → ℕ
come_by T x p = length (releases_at T 0 x p (synchronous T 0 x))

pub come_more : (T : List SporadicTask) (x p : ℕ) → releases_now (task_at T p) x ≡ true
    → come_by T x (p + 1) ≡ come_by T x p + 1
unfolding releases_at synchronous
come_more T x p e =
    ap (come_by T x) (let q : p + 1 ≡ suc p = omega arith in q)
    ∙ omega (arith, stand_there (task_releases T) (release_of T 0) (length T) default_job x p e)

-- the job that a task releases then
pub comes_at : (T : List SporadicTask) (x n p : ℕ) → x < n → p < length T → releases_now (task_at T p) x ≡ true
    → (come_by T x p < length (synchronous T 0 n)) × (job_at (synchronous T 0 n) (come_by T x p) ≡ release_of T 0 x p)
unfolding releases_at synchronous
comes_at T x n p l m e = (
  stands_within (task_releases T) (release_of T 0) (length T) default_job x n p l m e,
  stands_there (task_releases T) (release_of T 0) (length T) default_job x n p l m e,
)

-- no job after the first so many is released earlier
pub later_jobs : (T : List SporadicTask) (y n k : ℕ) → length (synchronous T 0 y) ≤ k
    → k < length (synchronous T 0 n) → y ≤ (job_at (synchronous T 0 n) k).release
unfolding synchronous
later_jobs T y n k a m =
    let s : Source (task_releases T) (release_of T 0) (length T) default_job n k
    = source (task_releases T) (release_of T 0) (length T) default_job n k m in
    omega (
      arith,
      source_late (task_releases T) (release_of T 0) (length T) default_job y n k a s,
      ap (λ (b : Job). b.release) (source_is (task_releases T) (release_of T 0) (length T) default_job n k s),
    )

-- each is released before the end
pub in_moments : (T : List SporadicTask) (n k : ℕ) → k < length (synchronous T 0 n)
    → (job_at (synchronous T 0 n) k).release < n
in_moments T n = each_release (λ b. b.release < n) T 0 n (λ x i l _ _. omega arith)
