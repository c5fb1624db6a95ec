use Rattle.std.proofs.Common.{◌≡◌, ◌<◌, List, [], ◌∷◌, ◌++◌, length, take, sym, ◌∙◌, ap, arith, take_all}
use Rattle.span_counts.specs.declared.counts.Counts.{Counts}
use Rattle.tree_spans.specs.NodeView.{counts_of}
use Rattle.tree_spans.specs.TreeSpans.{node_at}
use Rattle.tree_spans.proofs.KeptNodes.{counts_more}
use Rattle.tree_spans.proofs.kept.counts_kept.Goals as goal

pub loop-one-preserved : goal.loop-one-preserved
loop-one-preserved g c nodes ran h =
    let i = c.loop-one.one-index in
    let inside : i < length nodes = omega (arith, c.loop-one-test.true, h.one_each) in
    let own : c.counts.result ≡ (node_at nodes i).counts
    = c.counts.ensures (node_at nodes i) (ran i) ((h.each i inside).is c.one-item.result c.one-item.is) in
    c.in_ok-push.ensures.items
    ∙ (ap (λ (cs : List Counts). cs ++ c.counts.result ∷ []) (c.loop-one.invariant nodes ran h)
    ∙ (ap (λ (one : Counts). counts_of (take i nodes) ++ one ∷ []) own ∙ sym (counts_more nodes i inside)))

pub returns : goal.returns
returns g c nodes ran h =
    c.loop-one.invariant nodes ran h
    ∙ ap counts_of (take_all c.loop-one.one-index nodes (omega (arith, c.loop-one-test.false, h.one_each)))
