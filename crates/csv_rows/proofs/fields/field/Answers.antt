use Rattle.csv_rows.specs.Row.{fields_of}
use Rattle.csv_rows.proofs.FieldsThere.{field_there, field_is}
use Rattle.csv_rows.proofs.fields.field.Goals as goal

pub returns-in-Some : goal.returns-in-Some
returns-in-Some c = field_is (fields_of c.args.row.now) c.args.i c.in-Some.field.now c.in-Some.ensures

pub returns-in-None : goal.returns-in-None
returns-in-None c = absurd (field_there (fields_of c.args.row.now) c.args.i c.requires c.in-None.ensures)
