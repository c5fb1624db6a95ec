-- What is kept of the rows of a release file that were read.
use Rattle.std.specs.Prelude.{◌≡◌, ◌≢◌, ℕ, ◌+◌, ◌-◌, ◌^◌, min, ◌<◌, ◌≤◌, Bool, false, ◌&&◌, nat_lt, nat_le, List, [], ◌∷◌, length, slice_index_or, Option, Some, None}
use Rattle.slot_model.specs.declared.job.Job.{Job}
use Rattle.slot_model.specs.Task.{SporadicTask, early_job, job_at}
use Rattle.csv_rows.specs.Decimal.{number}
use Rattle.slot_model.specs.Release.{LegalRelease}
use Rattle.tree_model.specs.View.{PartView, SystemView}
use Rattle.tree_model.specs.System.{IsPart, IsSystem, own_tasks, part_at, part_names}
use Rattle.release_file.specs.declared.leaf_rows.LeafRows.{LeafRows}
use Rattle.release_file.specs.declared.release_rows.ReleaseRows.{ReleaseRows}
use Rattle.release_file.specs.declared.release_spelling.ReleaseFields.{ReleaseFields}
use Rattle.release_file.specs.declared.release_spelling.ReleaseNumbers.{ReleaseNumbers}
use Rattle.release_file.specs.ReleaseFile.{Release, jobs_of, last_slot, releases_of, task_names, task_place}

-- the five fields of a row
abbrev pub fields_in : ReleaseFields → List (List ℕ)
fields_in f = f.at.now ∷ f.part.now ∷ f.task.now ∷ f.work.now ∷ f.early.now ∷ []

-- the numbers of a row, each up to the greatest of 64 bits
pub record AreNumbers (f : ReleaseFields) (numbers : ReleaseNumbers) : Type 0 where
  pub at : numbers.at ≡ min (number f.at.now) (2 ^ 64 - 1)
  pub work : numbers.work ≡ min (number f.work.now) (2 ^ 64 - 1)
  pub early : numbers.early ≡ min (number f.early.now) (2 ^ 64 - 1)

-- the last job of the task at a place, or none
pub record IsLastJob (jobs : List Job) (task : ℕ) (job : Job) : Type 0 where
  pub place : ℕ
  pub within : place < length jobs
  pub is : job_at jobs place ≡ job
  pub of_task : job.task ≡ task
  pub last : (i : ℕ) → i < length jobs → (job_at jobs i).task ≡ task → i ≤ place

abbrev pub IsLast : List Job → ℕ → Option Job → Type 0
IsLast jobs task None = (i : ℕ) → i < length jobs → (job_at jobs i).task ≢ task
IsLast jobs task (Some job) = IsLastJob jobs task job

abbrev pub last_of : List (Option Job) → ℕ → Option Job
last_of last t = slice_index_or last t None

-- a job comes too soon after the last one of its task, where there is one
abbrev pub follows_too_soon : ℕ → Job → Option Job → Bool
follows_too_soon period job None = false
follows_too_soon period job (Some last) =
    nat_lt (job.release + last.early) (last.release + period + job.early)

-- a job's work is 1 to its task's, and it is released within the task's jitter
abbrev pub fits_numbers : SporadicTask → Job → Bool
fits_numbers task job =
    nat_le 1 job.work && nat_le job.work task.work && nat_le job.early task.jitter

-- the job of a row at a slot, of a task of this part
abbrev pub job_in : PartView → ReleaseFields → ℕ → Job
job_in part f at =
    early_job (task_place part.tasks f.task.now) at (number f.work.now) (number f.early.now)

-- the jobs of a part, which are legal, and the last of each task
pub record IsLeaf (leaf : LeafRows) : Type 0 where
  pub part : IsPart leaf.part.now
  pub names : leaf.names ≡ task_names leaf.part.now.tasks
  pub legal : LegalRelease (own_tasks leaf.part.now) leaf.jobs.items
  pub room : length leaf.last.items ≡ length leaf.part.now.tasks
  pub last : (t : ℕ) → t < length leaf.part.now.tasks →
      IsLast leaf.jobs.items t (last_of leaf.last.items t)

-- those of part q in these rows
pub record IsLeafOf (sys : SystemView) (rows : List Release) (q : ℕ) (leaf : LeafRows)
    : Type 0 where
  pub leaf_is : IsLeaf leaf
  pub part_is : leaf.part.now ≡ part_at sys q
  pub jobs_are : leaf.jobs.items ≡ jobs_of q rows

-- each part of the system, without jobs
pub record AreEmptyLeaves (sys : SystemView) (leaves : List LeafRows) : Type 0 where
  pub one_each : length leaves ≡ length sys.parts
  pub each : (q : ℕ) (d : LeafRows) → q < length sys.parts →
      IsLeafOf sys [] q (slice_index_or leaves q d)

-- what the first value is once it has taken these rows
pub record HasTakenReleases (start now : ReleaseRows) (rows : List (List (List ℕ))) : Type 0 where
  pub system : IsSystem now.sys.now
  pub sys : now.sys ≡ start.sys
  pub version : now.version ≡ start.version
  pub parts : now.parts ≡ part_names now.sys.now.parts
  pub slot : now.slot ≡ last_slot (releases_of start.sys.now start.version rows)
  pub one_each : length now.leaves.items ≡ length now.sys.now.parts
  pub leaves : (q : ℕ) (d : LeafRows) → q < length now.sys.now.parts →
      IsLeafOf now.sys.now (releases_of start.sys.now start.version rows) q
      (slice_index_or now.leaves.items q d)
