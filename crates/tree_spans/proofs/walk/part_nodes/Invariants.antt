use Rattle.std.proofs.Common.{map}
use Rattle.tree_spans.specs.inner.Walking.{HasCores, ArePartsKept}
use Rattle.tree_spans.proofs.walk.part_nodes.Given as goal

abbrev pub invariant-loop-q : goal.invariant-loop-q
invariant-loop-q g l =
    (h : HasCores g.K.KeptNode.is_kept_of l.sys l.budgets l.slots l.initial.cores)
    → ArePartsKept g.K.KeptNode.is_kept_of l.sys l.budgets l.slots (map (λ j. j.items) l.jobs) h.nodes l.q l.cores
    l.nodes.items
