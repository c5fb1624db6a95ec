use Rattle.std.proofs.Common.{inl, inr}
use Rattle.csv_rows.specs.Reading.{records_of}
use Rattle.release_file.proofs.WakesTaking.{spelt_all, workload_all, first_of_file}
use Rattle.release_file.proofs.workload_reading.read_workload.Goals as goal

pub returns-in-Err-read_rows-clause-fault : goal.returns-in-Err-read_rows-clause-fault
returns-in-Err-read_rows-clause-fault c =
    let text = c.args.bytes.now in
    let (header, told, has) = c.in_default.ensures.header text c.new-records.ensures.read in
    elim (c.in-Err-read_rows.ensures.first text header has) [
      | inl memory ↦ inl memory
      | inr breaks ↦
          inr (first_of_file c.args.sys.now (records_of text) c.in-Ok.rows header c.in-Err-read_rows.fault
          c.in-Ok.ensures.system told breaks)
    ]

pub returns-clause-spelt : goal.returns-clause-spelt
returns-clause-spelt c =
    let text = c.args.bytes.now in
    let (header, told, has) = c.in_default.ensures.header text c.new-records.ensures.read in
    rw (c.finish.ensures) (spelt_all c.args.sys.now (records_of text) c.in-Ok.rows c.read_rows.new.rows header
    c.in-Ok.ensures.system told (c.in_default-read_rows.ensures.all text header has))

pub returns-clause-workload : goal.returns-clause-workload
returns-clause-workload c =
    let text = c.args.bytes.now in
    let (header, told, has) = c.in_default.ensures.header text c.new-records.ensures.read in
    rw (c.finish.ensures) (workload_all c.args.sys.now (records_of text) c.in-Ok.rows c.read_rows.new.rows header
    c.in-Ok.ensures.system (c.in_default-read_rows.ensures.all text header has))
