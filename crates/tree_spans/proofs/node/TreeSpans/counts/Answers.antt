use Rattle.std.proofs.Common.{ℕ, ◌∙◌, ap}
use Rattle.tree_spans.specs.NodeView.{counts_of}
use Rattle.tree_spans.proofs.KeptNodes.{kept_itself}
use Rattle.tree_spans.proofs.node.TreeSpans.counts.Goals as goal

pub returns-clause-cores : goal.returns-clause-cores
returns-clause-cores c =
    c.in_ok-cores.ensures c.cores.result.now (λ (i : ℕ). 0) (kept_itself c.cores.result.now)
    ∙ ap counts_of c.cores.ensures

pub returns-clause-parts : goal.returns-clause-parts
returns-clause-parts c =
    c.in_ok-parts.ensures c.parts.result.now (λ (i : ℕ). 0) (kept_itself c.parts.result.now)
    ∙ ap counts_of c.parts.ensures
