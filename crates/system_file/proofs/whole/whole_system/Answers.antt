use Rattle.std.proofs.Common.{length, ap, refl, arith}
use Rattle.system_file.proofs.Systems.{among, few_parts, fault_in_tree, no_fault, is_whole}
use Rattle.system_file.proofs.whole.whole_system.Goals as goal

pub first_empty-requires : goal.first_empty-requires
first_empty-requires c = record { among = rw c.deref.ensures.value (among c.requires.1) }

pub overflow_cast-result : goal.overflow_cast-result
overflow_cast-result c =
    let found = rw c.in-Some.is at c.in_ok-place.ensures.found in
    omega (arith, found.0, ap length c.deref.ensures.value, few_parts c.requires.1)

pub returns-in-Some-clause-fault : goal.returns-in-Some-clause-fault
returns-in-Some-clause-fault c = λ memory document nodes.
    let found = rw (c.in-Some.is, c.deref.ensures.value) at c.in_ok-place.ensures.found in
    fault_in_tree nodes c.in-Some.place found.0 found.1 found.2

pub invariant_of-result : goal.invariant_of-result
invariant_of-result c =
    let nodes = c.requires.1 in
    let none = rw (c.in-None.is, c.deref.ensures.value) at c.in_ok-place.ensures.found in
    rw (nodes.cores_are, nodes.parts_are) (is_whole nodes none)

pub returns-in-None-clause-ok : goal.returns-in-None-clause-ok
returns-in-None-clause-ok c = λ document nodes.
    let none = rw (c.in-None.is, c.deref.ensures.value) at c.in_ok-place.ensures.found in
    (no_fault nodes none, rw (nodes.cores_are, nodes.parts_are) refl)
