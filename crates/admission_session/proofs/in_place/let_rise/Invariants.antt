use Rattle.std.proofs.Common.{◌≡◌, ◌++◌, map, take, drop}
use Rattle.admission_session.specs.inner.Undone.{risen_part}
use Rattle.admission_session.proofs.in_place.let_rise.Given as goal

abbrev pub invariant-loop-q : goal.invariant-loop-q
invariant-loop-q l = l.parts ≡ map (risen_part l.gap) (take l.q l.initial.parts) ++ drop l.q l.initial.parts
