use Rattle.isolation.specs.declared.vcpus.PartIsolation.{PartIsolation}
use Rattle.isolation.specs.Answers.{IsIsolationOf, OneEach}
use Rattle.isolation.proofs.Listed.{vcpus_among}
use Rattle.isolation.proofs.vcpus.isolations.Given as goal

-- what is answered of the parts so far
abbrev pub invariant-loop-v : goal.invariant-loop-v
invariant-loop-v l =
    OneEach (λ (row : PartIsolation). row.part) (IsIsolationOf l.sys l.plan) (vcpus_among l.sys l.v) l.rows.items
