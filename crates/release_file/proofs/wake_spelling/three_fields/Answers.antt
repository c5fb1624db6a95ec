use Rattle.std.proofs.Common.{◌∙◌, sym}
use Rattle.csv_rows.specs.Row.{fields_of}
use Rattle.csv_rows.proofs.FieldsThere.{fields_listed}
use Rattle.release_file.proofs.wake_spelling.three_fields.Goals as goal

pub returns : goal.returns
returns c =
    rw (c.field-at.ensures, c.field-vcpu.ensures, c.field-what.ensures)
    (fields_listed (fields_of c.args.fields.now) 3 (sym c.len.ensures ∙ c.if-len-ne3.false))
