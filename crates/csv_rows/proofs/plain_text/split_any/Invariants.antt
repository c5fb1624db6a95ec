use Rattle.std.proofs.Common.{◌≤◌, ◌-◌, length}
use Rattle.csv_rows.specs.PlainText.{IsPlainText}
use Rattle.csv_rows.specs.Row.{texts_of}
use Rattle.csv_rows.proofs.Splitting.{Reads}
use Rattle.csv_rows.proofs.plain_text.split_any.Given as goal

-- the machine reads on behind the fields so far and the front of the next one
abbrev pub invariant-loop-at : goal.invariant-loop-at
invariant-loop-at l = record {
  order : l.from ≤ l.at;
  within : l.at ≤ length l.text;
  reads : IsPlainText l.text → Reads l.text (texts_of l.fields.items) l.from l.at;
}

abbrev pub decreases-loop-at : goal.decreases-loop-at
decreases-loop-at l = length l.text - l.at
