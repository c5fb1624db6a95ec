-- The releases that the records of a file spell. A record is a list of fields, and a field a list
-- of bytes.
use Rattle.std.specs.Prelude.{◌≡◌, ℕ, ◌+◌, ◌-◌, ◌<◌, ◌==◌, Bool, false, not, ◌&&◌, nat_lt, if◌then◌else◌, List, [], ◌∷◌, ◌++◌, length, map, slice_index_or, Option, Some, None, option_map, codes, bytes_eq, position, unwrap_or}
use Rattle.std.specs.List.{filter, list_any}
use Rattle.slot_model.specs.declared.job.Job.{Job}
use Rattle.slot_model.specs.declared.task.TheConstants.{LIMIT}
use Rattle.slot_model.specs.Task.{SporadicTask, default_job, early_job, task_at}
use Rattle.slot_model.specs.Release.{fits_task}
use Rattle.csv_rows.specs.Decimal.{is_plain, number}
use Rattle.csv_rows.specs.Rules.{RulesOf, RowsKeep, IsFirstFault, row_of, fault_if}
use Rattle.tree_model.specs.View.{NamedTask, PartView, SystemView}
use Rattle.tree_model.specs.System.{is_leaf, own_tasks, part_at}
use Rattle.tree_model.specs.Releases.{jobs_at}
use Rattle.trace_file.specs.File.{part_place}
use Rattle.release_file.specs.declared.fault.ReleaseFault.{ReleaseFault}
use Rattle.release_file.specs.declared.fault.ReleaseFault.TheVariants.{BadHeader, BadRow, Unknown, OutOfRange, TooEarly, BadOrder}
use Rattle.release_file.specs.declared.release_spelling.Version.{Version}
use Rattle.release_file.specs.declared.release_spelling.Version.TheVariants.{First, Second}

-- a row of version 2 has a field `early` behind those of version 1, whose rows are read as if it
-- were 0
abbrev pub all_fields : Version → List (List ℕ) → List (List ℕ)
all_fields First fields = fields ++ codes "0" ∷ []
all_fields Second fields = fields

-- so a row has five fields: a plain number, a part, a task, and two plain numbers
abbrev pub is_release_row : List (List ℕ) → Bool
is_release_row (at ∷ part ∷ task ∷ work ∷ early ∷ []) =
    is_plain at && is_plain work && is_plain early
is_release_row _ = false

-- the place of a task by its name; past the last one where none has the name
abbrev pub task_names : List NamedTask → List (List ℕ)
task_names tasks = map (λ (t : NamedTask). t.name) tasks

abbrev pub task_place : List NamedTask → List ℕ → ℕ
task_place tasks name = unwrap_or (position (bytes_eq name) (task_names tasks)) (length tasks)

-- a job that a row releases, and the part whose task it is of
pub record Release : Type 0 where
  pub part : ℕ
  pub job : Job

abbrev pub release_of : SystemView → List (List ℕ) → Release
release_of sys (at ∷ part ∷ task ∷ work ∷ early ∷ []) =
    let q = part_place sys part in
    record {
      part = q;
      job = early_job (task_place (part_at sys q).tasks task) (number at) (number work)
          (number early);
    }
release_of sys _ = record { part = 0; job = default_job }

abbrev pub releases_of : SystemView → Version → List (List (List ℕ)) → List Release
releases_of sys version rows = map (λ row. release_of sys (all_fields version row)) rows

-- the jobs of part q, in order, and the slot of the last row; without rows it is 0
abbrev pub jobs_of : ℕ → List Release → List Job
jobs_of q rows = map (λ (r : Release). r.job) (filter (λ (r : Release). r.part == q) rows)

abbrev pub release_at : List Release → ℕ → Release
release_at rows i = slice_index_or rows i (record { part = 0; job = default_job })

abbrev pub last_slot : List Release → ℕ
last_slot rows = (release_at rows (length rows - 1)).job.release

-- a leaf has the task
abbrev pub has_task : PartView → ℕ → Bool
has_task part task = is_leaf part.tasks && nat_lt task (length part.tasks)

-- a job arrived less than a period after, or before, an earlier one of its task
abbrev pub comes_too_soon : ℕ → Job → Job → Bool
comes_too_soon period job earlier =
    earlier.task == job.task &&
    nat_lt (job.release + earlier.early) (earlier.release + period + job.early)

abbrev pub is_too_early : List SporadicTask → List Job → Job → Bool
is_too_early tasks jobs job =
    list_any (comes_too_soon (task_at tasks job.task).period job) jobs

-- the first rule on its job that row r breaks, behind these jobs of its part: the part is a leaf
-- with the task, the job is within its task's work and jitter, and arrives a period after the
-- earlier ones of the task
abbrev pub job_fault : List SporadicTask → List Job → Job → ℕ → Option ReleaseFault
job_fault tasks jobs job r =
    fault_if (not (fits_task tasks job)) (OutOfRange r)
    (fault_if (is_too_early tasks jobs job) (TooEarly r) None)

abbrev pub part_fault : PartView → List Job → Job → ℕ → Option ReleaseFault
part_fault part jobs job r =
    fault_if (not (has_task part job.task)) (Unknown r) (job_fault (own_tasks part) jobs job r)

-- the first rule that a row breaks behind these: its slot is in the limit and not before that of
-- the row before, and the rules on its job
abbrev pub release_fault : SystemView → List Release → Release → Option ReleaseFault
release_fault sys rows row =
    let r = row_of (length rows) in
    fault_if (nat_lt LIMIT row.job.release) (OutOfRange r)
    (fault_if (nat_lt row.job.release (last_slot rows)) (BadOrder r)
    (part_fault (part_at sys row.part) (jobs_of row.part rows) row.job r))

-- the same of a record: no row, or a rule of what it spells
abbrev pub release_rules : SystemView → Version → RulesOf ReleaseFault
release_rules sys version rows row =
    let fields = all_fields version row in
    fault_if (not (is_release_row fields)) (BadRow (row_of (length rows)))
    (release_fault sys (releases_of sys version rows) (release_of sys fields))

-- the version that a header tells, and the rows behind it
abbrev pub are_names : List ℕ → List ℕ → List ℕ → List ℕ → Bool
are_names at part task work =
    bytes_eq at (codes "at") && bytes_eq part (codes "part") && bytes_eq task (codes "task")
    && bytes_eq work (codes "work")

abbrev pub header_version : List (List ℕ) → Option Version
header_version (at ∷ part ∷ task ∷ work ∷ []) =
    if are_names at part task work then Some First else None
header_version (at ∷ part ∷ task ∷ work ∷ early ∷ []) =
    if are_names at part task work && bytes_eq early (codes "early") then Some Second else None
header_version _ = None

abbrev pub release_rows : List (List (List ℕ)) → Option (Version × List (List (List ℕ)))
release_rows [] = None
release_rows (header ∷ rows) = option_map (λ version. (version, rows)) (header_version header)

-- the records spell these releases, a list of jobs a part
pub record SpellsReleases (sys : SystemView) (records : List (List (List ℕ)))
    (jobs : List (List Job)) : Type 0 where
  pub version : Version
  pub rows : List (List (List ℕ))
  pub header : release_rows records ≡ Some (version, rows)
  pub keep : RowsKeep (release_rules sys version) rows (length rows)
  pub one_each : length jobs ≡ length sys.parts
  pub jobs_are : (q : ℕ) → q < length sys.parts →
      jobs_at jobs q ≡ jobs_of q (releases_of sys version rows)

-- or this is their first fault: of the header, or of the first row that breaks a rule
abbrev pub IsReleasesFault
    : SystemView → Option (Version × List (List (List ℕ))) → ReleaseFault → Type 0
IsReleasesFault sys None fault = fault ≡ BadHeader
IsReleasesFault sys (Some file) fault = IsFirstFault (release_rules sys file.0) file.1 fault
