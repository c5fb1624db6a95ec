use Rattle.std.proofs.Common.{◌≡◌, ℕ, List, take}
use Rattle.tree_spans.specs.NodeView.{NodeView, counts_of}
use Rattle.tree_spans.specs.KeptNodes.{AreKept}
use Rattle.tree_spans.proofs.kept.counts_kept.Given as goal

abbrev pub invariant-loop-one : goal.invariant-loop-one
invariant-loop-one g l =
    (nodes : List NodeView) (ran : ℕ → ℕ) → AreKept g.K.KeptNode.is_kept_of ran l.kept nodes
    → l.counts.items ≡ counts_of (take l.one-index nodes)
