use Rattle.std.proofs.Common.{ℕ, List}
use Rattle.csv_rows.specs.Reading.{HasRead}
use Rattle.csv_rows.specs.Taker.{Took}
use Rattle.csv_rows.proofs.feed.take_all.Given as goal

-- the records that were read were taken
abbrev pub invariant-loop : goal.invariant-loop
invariant-loop g l = record {
  read : List (List (List ℕ));
  has : HasRead l.text read l.records;
  took : Took g.T.RecordTaker.has_taken l.fn.taker l.taker read;
}
