use Rattle.std.proofs.Common.{◌∙◌, sym, ap, arith}
use Rattle.csv.specs.Records.{field_at}
use Rattle.csv_rows.specs.Row.{fields_of}
use Rattle.csv_rows.specs.declared.row.Row.{Row}
use Rattle.csv_rows.proofs.FieldsThere.{text_there, no_text_there}
use Rattle.csv_rows.proofs.row.Row.get.Goals as goal

pub returns-then-i-fields : goal.returns-then-i-fields
returns-then-i-fields c =
    no_text_there c.in-Split.fields.now c.args.i (omega arith)
    ∙ ap (λ (r : Row). field_at (fields_of r) c.args.i) (sym c.in-Split.is)

pub returns-else-i-fields : goal.returns-else-i-fields
returns-else-i-fields c =
    text_there c.in-Split.fields.now c.args.i _ (omega arith)
    ∙ ap (λ (r : Row). field_at (fields_of r) c.args.i) (sym c.in-Split.is)
