use Rattle.std.proofs.Common.{◌≡◌, ℕ, ◌+◌, Bool, List, length, arith, sym, ◌∙◌, ap}
use Rattle.slot_model.specs.Slots.{count_below}
use Rattle.slot_model.proofs.Sums.{sum_below-zero}
use Rattle.slot_model.proofs.MissedJobs.{count_below-passes, count_below-fails}
use Rattle.tree_model.specs.View.{PartView}
use Rattle.tree_model.specs.System.{part_at}
use Rattle.tree_model.specs.Tree.{place_of, same_place, is_child}
use Rattle.tree_model.proofs.NodeTasks.{part_here}
use Rattle.tree_spans.proofs.walk.rank_of.Goals as goal
use Rattle.tree_spans.proofs.walk.rank_of.Goals.{then-is_child_of, else-is_child_of}

pub loop-earlier-init : goal.loop-earlier-init
loop-earlier-init c = record { counted = sym (sum_below-zero _); few = omega arith }

pub loop-earlier-preserved : goal.loop-earlier-preserved
loop-earlier-preserved c =
    let child : ℕ → Bool = is_child c.args.sys.now c.place-parent.result in
    let i : ℕ = c.loop-earlier.earlier in
    let same : length c.parts-parts.result.now ≡ length c.args.sys.now.parts
    = ap (λ (ps : List PartView). length ps) c.parts-parts.ensures.parts in
    let here : c.index-parts-earlier.result ≡ part_at c.args.sys.now i
    = part_here c.args.sys.now c.parts-parts.result.now i c.index-parts-earlier.result c.parts-parts.ensures.parts
    (omega (arith, same)) c.index-parts-earlier.is in
    let tested : c.is_child_of.result ≡ child i
    = c.is_child_of.ensures ∙ ap (λ (p : PartView). same_place (place_of p.parent) c.place-parent.result) here in
    elim c.if-is_child_of.branch [
      | then-is_child_of w ↦
          let more : count_below child (i + 1) ≡ count_below child i + 1
          = count_below-passes child i (sym tested ∙ w.if-is_child_of.true) in
          record { counted = omega (arith, w.rank-is); few = omega (arith, w.rank-is) }
      | else-is_child_of w ↦
          let same : count_below child (i + 1) ≡ count_below child i
          = count_below-fails child i (sym tested ∙ w.if-is_child_of.false) in
          record { counted = omega (arith, w.rank-is); few = omega (arith, w.rank-is) }
    ]
