use Rattle.csv_rows.specs.Row.{fields_of}
use Rattle.host_commands.proofs.Edited.{took_edit}
use Rattle.host_commands.proofs.editing.EditingRowRules.take.Goals as goal

pub returns-in-Ok-Some-clause-taken : goal.returns-in-Ok-Some-clause-taken
returns-in-Ok-Some-clause-taken c start rows has number =
    let spelt = rw c.in-Ok-Some.field-0-is at c.in-Ok-Some.ensures in
    took_edit start c.args.self.now c.edit.new.self rows (fields_of c.args.row.now) c.in-Ok-Some.edit c.args.number
    c.edit.result has number spelt c.edit.ensures.answered
