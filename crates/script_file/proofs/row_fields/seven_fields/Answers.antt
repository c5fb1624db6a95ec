use Rattle.std.proofs.Common.{◌∙◌, sym}
use Rattle.csv_rows.specs.Row.{fields_of}
use Rattle.csv_rows.proofs.FieldsThere.{fields_listed}
use Rattle.script_file.proofs.row_fields.seven_fields.Goals as goal

pub returns : goal.returns
returns c =
    rw (
      c.field-op.ensures,
      c.field-part.ensures,
      c.field-parent.ensures,
      c.field-sched.ensures,
      c.field-period.ensures,
      c.field-budget.ensures,
      c.field-tasks.ensures,
    ) (fields_listed (fields_of c.args.row.now) 7 (sym c.len.ensures ∙ c.if-len-ne7.false))
