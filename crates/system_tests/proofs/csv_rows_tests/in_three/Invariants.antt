use Rattle.std.proofs.Common.{ℕ, List}
use Rattle.csv_rows.specs.Feed.{IsFed}
use Rattle.system_tests.specs.declared.csv_rows_tests.Written.{Written}
use Rattle.system_tests.proofs.csv_rows_tests.in_three.Given as goal

abbrev pub invariant-loop-piece : goal.invariant-loop-piece
invariant-loop-piece l = (start : Written) × (text : List ℕ) × IsFed (λ _ _ _. Unit {0}) start text l.feed
