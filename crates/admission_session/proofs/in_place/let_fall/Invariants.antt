use Rattle.std.proofs.Common.{◌≡◌, ◌++◌, map, take, drop}
use Rattle.admission_session.specs.Leaves.{fallen_part}
use Rattle.admission_session.proofs.in_place.let_fall.Given as goal

abbrev pub invariant-loop-q : goal.invariant-loop-q
invariant-loop-q l = l.parts ≡ map (fallen_part l.gap) (take l.q l.initial.parts) ++ drop l.q l.initial.parts
