use Rattle.std.proofs.Common.{ℕ, List, length}
use Rattle.csv.specs.Reading.{Reached, default_config}
use Rattle.csv.specs.declared.parser.State.TheVariants as st
use Rattle.csv_rows.specs.PlainText.{IsPlainText}
use Rattle.csv_rows.specs.Taker.{Took}
use Rattle.csv_rows.proofs.feed.take_plain.Given as goal

-- the records so far were taken, and what is left stands behind them
abbrev pub invariant-loop-line : goal.invariant-loop-line
invariant-loop-line g l = record {
  read : List (List (List ℕ));
  took : Took g.T.RecordTaker.has_taken l.fn.taker l.taker read;
  reached : Reached default_config st.StartRecord l.text read st.StartRecord l.left;
  plain : IsPlainText l.left;
}

abbrev pub decreases-loop-line : goal.decreases-loop-line
decreases-loop-line g l = length l.left
