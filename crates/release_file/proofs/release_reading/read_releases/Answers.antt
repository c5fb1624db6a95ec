use Rattle.std.proofs.Common.{◌≡◌, ◌∙◌, Vec, Global, map, ap, inl, inr}
use Rattle.std.proofs.lemmas.Simd.{map-map}
use Rattle.csv_rows.specs.Reading.{records_of}
use Rattle.slot_model.specs.declared.job.Job.{Job}
use Rattle.release_file.specs.declared.leaf_rows.LeafRows.{LeafRows}
use Rattle.release_file.proofs.ReleasesTaking.{HasReadReleases, has_read, first_of_file, spelt_all, legal_all, few_all}
use Rattle.release_file.proofs.release_reading.read_releases.Goals as goal
use Rattle.release_file.proofs.release_reading.read_releases.Goals.{In-Ok-finish}

pub returns-in-Err-read_rows-clause-fault : goal.returns-in-Err-read_rows-clause-fault
returns-in-Err-read_rows-clause-fault c =
    let text = c.args.bytes.now in
    let (header, told, has) = c.in-Ok.ensures.version text c.new-records.ensures.read in
    let file = c.in-Ok-new.ensures.file in
    elim (c.in-Err-read_rows.ensures.first text header has) [
      | inl memory ↦ inl memory
      | inr breaks ↦
          inr (first_of_file c.args.sys.now (records_of text) c.in-Ok-new.rows header c.in-Ok.version
          c.in-Err-read_rows.fault file.0 file.1 told breaks)
    ]

-- what was read of the file, and the lists of jobs that it gives
read_all : (c : In-Ok-finish)
    → HasReadReleases c.args.sys.now (records_of c.args.bytes.now) c.in-Ok-new.rows c.read_rows.new.rows c.in-Ok.version
read_all c =
    let text = c.args.bytes.now in
    let (header, told, has) = c.in-Ok.ensures.version text c.new-records.ensures.read in
    let file = c.in-Ok-new.ensures.file in
    has_read c.args.sys.now (records_of text) c.in-Ok-new.rows c.read_rows.new.rows header c.in-Ok.version file.0 file.1
    told (c.in_default-read_rows.ensures.all text header has)

jobs_are : (c : In-Ok-finish)
    → map (λ (js : Vec Job Global). js.items) c.in-Ok-finish.jobs.items
    ≡ map (λ (l : LeafRows). l.jobs.items) c.read_rows.new.rows.leaves.items
jobs_are c =
    ap (map (λ (js : Vec Job Global). js.items)) c.in-Ok-finish.ensures
    ∙ map-map (λ (js : Vec Job Global). js.items) (λ (l : LeafRows). l.jobs) c.read_rows.new.rows.leaves.items

pub returns-in-Ok-finish-clause-spelt : goal.returns-in-Ok-finish-clause-spelt
returns-in-Ok-finish-clause-spelt c =
    let here = (goal.at.returns-in-Ok-finish-clause-spelt c).In-Ok-finish in
    spelt_all _ _ _ _ _ _ (read_all here) (jobs_are here)

pub returns-in-Ok-finish-clause-legal : goal.returns-in-Ok-finish-clause-legal
returns-in-Ok-finish-clause-legal c =
    let here = (goal.at.returns-in-Ok-finish-clause-legal c).In-Ok-finish in
    legal_all _ _ _ _ _ _ (read_all here) (jobs_are here)

pub returns-in-Ok-finish-clause-few : goal.returns-in-Ok-finish-clause-few
returns-in-Ok-finish-clause-few c =
    let here = (goal.at.returns-in-Ok-finish-clause-few c).In-Ok-finish in
    few_all _ _ _ (spelt_all _ _ _ _ _ _ (read_all here) (jobs_are here))
