use Rattle.std.proofs.Common.{◌≡◌, ◌≤◌, ◌<◌, ◌-◌, ℕ, length, get_or}
use Rattle.std.specs.Int.{bit_at}
use Rattle.csv_rows.specs.PlainText.{IsPlainText}
use Rattle.csv_rows.specs.Row.{texts_of}
use Rattle.csv_rows.proofs.Splitting.{Reads}
use Rattle.csv_rows.proofs.near.split_line.Given as goal

-- the machine has read the fields so far, and the commas behind them are marked
abbrev pub invariant-loop-commas : goal.invariant-loop-commas
invariant-loop-commas l = record {
  order : l.from ≤ l.end;
  front : length l.fields.items ≡ 0 → l.from ≡ 0;
  reads : IsPlainText l.text → Reads l.text (texts_of l.fields.items) l.from l.from;
  ahead : (k : ℕ) → l.from ≤ k → k < l.end → get_or l.text k 0 ≡ 44 → bit_at l.commas k ≡ 1;
  only : (k : ℕ) → bit_at l.commas k ≡ 1 → (l.from ≤ k) × (k < l.end) × (get_or l.text k 0 ≡ 44);
}

abbrev pub decreases-loop-commas : goal.decreases-loop-commas
decreases-loop-commas l = l.end - l.from
