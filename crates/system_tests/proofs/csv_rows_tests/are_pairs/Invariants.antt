use Rattle.csv_rows.specs.Reading.{IsOpen}
use Rattle.system_tests.proofs.csv_rows_tests.are_pairs.Given as goal

abbrev pub invariant-loop-first : goal.invariant-loop-first
invariant-loop-first g l = IsOpen l.records
