use Rattle.std.proofs.Common.{ℕ, List}
use Rattle.auditor.specs.declared.counted.Counted.TheVariants.{Core}
use Rattle.auditor.specs.Pieces.{HasAudited}
use Rattle.schedule_tests.proofs.auditor_tests.found_in_two.Given as goal

abbrev pub invariant-loop-piece : goal.invariant-loop-piece
invariant-loop-piece l = (text : List ℕ) × HasAudited Core l.fn.sys l.fn.plan text l.audit
