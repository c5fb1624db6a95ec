use Rattle.std.proofs.Common.{map}
use Rattle.tree_spans.specs.inner.Walking.{AreCoresKept}
use Rattle.tree_spans.proofs.walk.core_nodes.Given as goal

abbrev pub invariant-loop-c : goal.invariant-loop-c
invariant-loop-c g l =
    AreCoresKept g.K.KeptNode.is_kept_of l.sys l.budgets l.slots (map (λ g. g.items) l.given) l.c l.nodes.items
