use Rattle.std.proofs.Common.{inr}
use Rattle.csv_rows.specs.Row.{fields_of}
use Rattle.release_file.specs.WorkloadFile.{wake_of}
use Rattle.release_file.proofs.WakesTaking.{row_breaks}
use Rattle.release_file.proofs.wake_rows.WakeRowsRowRules.take.Goals as goal

pub keep-requires-clause-in_limit : goal.keep-requires-clause-in_limit
keep-requires-clause-in_limit c = c.in-Spelled.ensures.2

pub keep-requires-clause-vcpu : goal.keep-requires-clause-vcpu
keep-requires-clause-vcpu c = c.in-Spelled.ensures.3

pub unknown_fault-requires-clause-in_limit : goal.unknown_fault-requires-clause-in_limit
unknown_fault-requires-clause-in_limit c = c.in-Unknown.ensures.2

pub returns-in-Unknown-clause-fault : goal.returns-in-Unknown-clause-fault
returns-in-Unknown-clause-fault c start rows has number =
    let a = c.args.self.now in
    let row = fields_of c.args.row.now in
    let told = c.in-Unknown.ensures in
    inr (row_breaks start a rows row c.unknown_fault.result has told.0
    (c.unknown_fault.ensures (wake_of a.sys.now row) told.1 told.3))
