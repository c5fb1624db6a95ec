use Rattle.std.proofs.Common.{inl, inr}
use Rattle.csv_rows.specs.Reading.{records_of}
use Rattle.script_file.proofs.RowsTaking.{HeaderRead, first_of_file}
use Rattle.host_commands.proofs.Edited.{told_all}
use Rattle.host_commands.proofs.editing.edit_all.Goals as goal
use Rattle.host_commands.proofs.editing.edit_all.Goals.{After-read_rows}

header_read : (c : After-read_rows) → HeaderRead c.args.bytes.now c.read_header.new.records
header_read c = c.in_default.ensures.header c.args.bytes.now c.new-records.ensures.read

pub returns-in-Err-read_rows-clause-fault : goal.returns-in-Err-read_rows-clause-fault
returns-in-Err-read_rows-clause-fault c =
    let text = c.args.bytes.now in
    let (header, is_header, has) = header_read (goal.at.returns-in-Err-read_rows-clause-fault c).After-read_rows in
    elim (c.in-Err-read_rows.ensures.first text header has) [
      | inl memory ↦ inl memory
      | inr breaks ↦ inr (first_of_file (records_of text) header c.in-Err-read_rows.fault is_header breaks)
    ]

pub returns-in-Ok-finish-clause-told : goal.returns-in-Ok-finish-clause-told
returns-in-Ok-finish-clause-told c =
    let text = c.args.bytes.now in
    let (header, is_header, has) = header_read (goal.at.returns-in-Ok-finish-clause-told c).After-read_rows in
    told_all c.args.session text c.in-Ok-finish.text.items c.in-Ok.rows c.read_rows.new.rows header
    c.in-Ok.ensures.session c.in-Ok.ensures.text is_header (c.in_default-read_rows.ensures.all text header has)
    c.in-Ok-finish.ensures
