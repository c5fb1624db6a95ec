use Rattle.std.proofs.Common.{◌<◌, ◌^◌, length, inl, inr}
use Rattle.csv_rows.specs.Reading.{records_of}
use Rattle.script_file.specs.Script.{SpellsScript}
use Rattle.script_file.proofs.RowsTaking.{HeaderRead, spelt_all, first_of_file}
use Rattle.script_file.proofs.script_reading.read_edits.Goals as goal
use Rattle.script_file.proofs.script_reading.read_edits.Goals.{After-finish, After-read_rows}

header_read : (c : After-read_rows) → HeaderRead c.args.bytes.now c.read_header.new.records
header_read c = c.in_default.ensures.header c.args.bytes.now c.new-records.ensures.read

-- what was read of the whole file
all_read : (c : After-finish)
    → SpellsScript (records_of c.args.bytes.now) c.read_rows.new.rows.edits.items
    × (length c.read_rows.new.rows.edits.items < 2 ^ 32)
all_read c =
    let text = c.args.bytes.now in
    let (header, is_header, has) = c.in_default.ensures.header text c.new-records.ensures.read in
    let (read, is, keep, taken) = c.in_default-read_rows.ensures.all text header has in (
      spelt_all (records_of text) c.new-rows.result c.read_rows.new.rows header is_header (read, is, keep, taken),
      taken.few,
    )

pub returns-in-Err-read_rows-clause-fault : goal.returns-in-Err-read_rows-clause-fault
returns-in-Err-read_rows-clause-fault c =
    let text = c.args.bytes.now in
    let (header, is_header, has) = header_read (goal.at.returns-in-Err-read_rows-clause-fault c).After-read_rows in
    elim (c.in-Err-read_rows.ensures.first text header has) [
      | inl memory ↦ inl memory
      | inr breaks ↦ inr (first_of_file (records_of text) header c.in-Err-read_rows.fault is_header breaks)
    ]

pub returns-clause-spelt : goal.returns-clause-spelt
returns-clause-spelt c = rw (c.finish.ensures) (all_read (goal.at.returns-clause-spelt c).After-finish).0

pub returns-clause-few : goal.returns-clause-few
returns-clause-few c = rw (c.finish.ensures) (all_read (goal.at.returns-clause-few c).After-finish).1
