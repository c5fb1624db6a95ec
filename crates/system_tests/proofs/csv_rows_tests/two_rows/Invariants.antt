use Rattle.std.proofs.Common.{ℕ, List}
use Rattle.csv_rows.specs.Printing.{AreOfLength, HasWritten}
use Rattle.system_tests.proofs.csv_rows_tests.two_rows.Given as goal

abbrev pub invariant-loop-row : goal.invariant-loop-row
invariant-loop-row l = (rows : List (List (List ℕ))) × HasWritten rows l.writer × AreOfLength 3 rows
