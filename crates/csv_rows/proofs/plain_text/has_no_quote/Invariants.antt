use Rattle.std.proofs.Common.{◌≤◌, ◌-◌, length, take}
use Rattle.csv_rows.specs.PlainText.{IsPlainText}
use Rattle.csv_rows.proofs.plain_text.has_no_quote.Given as goal

-- the bytes so far have no quote and no carriage return
abbrev pub invariant-loop-at : goal.invariant-loop-at
invariant-loop-at l = record { within : l.at ≤ length l.text; plain : IsPlainText (take l.at l.text) }

abbrev pub decreases-loop-at : goal.decreases-loop-at
decreases-loop-at l = length l.text - l.at
