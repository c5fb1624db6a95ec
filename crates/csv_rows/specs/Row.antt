-- The fields of a row.
use Rattle.std.specs.Prelude.{ℕ, List, map}
use Rattle.std.specs.Borrow.{Bor}
use Rattle.csv.specs.Records as kit
use Rattle.csv_rows.specs.declared.row.Row.{Row}
use Rattle.csv_rows.specs.declared.row.Row.TheVariants.{Split, Read}

abbrev pub texts_of : List (Bor (List ℕ)) → List (List ℕ)
texts_of fields = map (λ f. f.now) fields

abbrev pub fields_of : Row → List (List ℕ)
fields_of (Split fields) = texts_of fields.now
fields_of (Read row) = kit.fields_of row.now
