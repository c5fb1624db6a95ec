use Rattle.std.proofs.Common.{ℕ, List}
use Rattle.trace_file.specs.Fed.{HasChecked}
use Rattle.schedule_tests.proofs.auditor_tests.checked_in_two.Given as goal

abbrev pub invariant-loop-piece : goal.invariant-loop-piece
invariant-loop-piece l = (text : List ℕ) × HasChecked l.fn.sys text l.check
