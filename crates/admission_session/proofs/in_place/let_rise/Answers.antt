use Rattle.std.proofs.Common.{sym, ◌∙◌, set, ap}
use Rattle.std.proofs.lemmas.List.Edits.{map_over_more}
use Rattle.tree_model.specs.View.{PartView}
use Rattle.admission_session.specs.inner.Undone.{risen_part}
use Rattle.admission_session.proofs.Undone.{risen_written}
use Rattle.admission_session.proofs.in_place.let_rise.Goals as goal

pub loop-q-preserved : goal.loop-q-preserved
loop-q-preserved c =
    ap (λ (p : PartView). set c.loop-q.parts c.loop-q.q p)
    (risen_written _ c.index-parts-q.result c.args.gap c.risen-part-inside.result
    (c.part.view_is ∙ sym c.index-parts-q.is) c.risen-part-inside.ensures)
    ∙ map_over_more (risen_part c.args.gap) c.args.parts.now c.loop-q.parts c.loop-q.q c.index-parts-q.result
    c.loop-q-test.true c.loop-q.invariant c.index-parts-q.is
