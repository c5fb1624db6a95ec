use Rattle.std.proofs.Common.{◌≡◌, ◌+◌, length}
use Rattle.rt_report.specs.Words.{names_among}
use Rattle.rt_report.proofs.names.child.Given as goal

-- so many children have passed
abbrev pub invariant-loop-part : goal.invariant-loop-part
invariant-loop-part l = l.before + length (names_among l.sys l.node l.part-index) ≡ l.i
