use Rattle.std.proofs.Common.{◌≡◌, take}
use Rattle.window_terms.specs.Asked.{asked_by}
use Rattle.window_terms.proofs.sums.asked_far.Given as goal

abbrev pub invariant-loop-term : goal.invariant-loop-term
invariant-loop-term l = l.total ≡ asked_by (take l.term-index l.terms) l.t
