use Rattle.std.proofs.Common.{◌≡◌, ℕ, ◌*◌, ◌/◌, ◌^◌, ◌<◌, List, length, arith, refl, sym, ◌∙◌, ap, subst}
use Rattle.std.proofs.lemmas.List.{length-replicate, get_or-replicate}
use Rattle.tree_model.specs.declared.place.Parent.TheVariants.{Core as on_core}
use Rattle.tree_model.specs.View.{PartView}
use Rattle.tree_model.specs.System.{Stands, part_at}
use Rattle.tree_model.specs.Tree.{budget_at}
use Rattle.tree_model.proofs.NodeTasks.{part_here}
use Rattle.admission_session.proofs.Asked.{asked_begins, asked_off, asked_on}
use Rattle.admission_session.proofs.shares.asked_of_cores.Goals as goal
use Rattle.admission_session.proofs.shares.asked_of_cores.Goals.{in-Core, in-Part}

pub loop-q-init : goal.loop-q-init
loop-q-init c =
    asked_begins c.args.sys.now c.args.budgets.now _ (length-replicate {A = ℕ} 64 0)
    (λ d l. get_or-replicate {A = ℕ} 64 d 0 0 l)

pub loop-q-preserved : goal.loop-q-preserved
loop-q-preserved c =
    let inside : c.loop-q.q < length c.args.sys.now.parts = omega (arith, c.loop-q-test.true, c.requires.count) in
    let here : c.index-parts-q.result ≡ part_at c.args.sys.now c.loop-q.q
    = part_here c.args.sys.now c.parts-parts.result.now c.loop-q.q c.index-parts-q.result c.parts-parts.ensures.parts
    (omega (arith, inside, ap (λ (ps : List PartView). length ps) c.parts-parts.ensures.parts)) c.index-parts-q.is in
    let stands : (part_at c.args.sys.now c.loop-q.q).parent ≡ c.parent.result
    = ap (λ (p : PartView). p.parent) (sym here) ∙ sym c.parent.ensures in
    elim c.match-parent.branch [
      | in-Core w ↦
          (let on : (part_at c.args.sys.now c.loop-q.q).parent ≡ on_core w.in-Core.c = stands ∙ w.in-Core.is in
          rw w.asked-is
          (asked_on c.args.sys.now c.args.budgets.now c.loop-q.asked _ c.loop-q.q w.in-Core.c w.share_of.result on
          (omega (
            arith,
            c.parts-parts.ensures.system.few_cores,
            subst (Stands c.args.sys.now c.loop-q.q) on (c.parts-parts.ensures.system.parents c.loop-q.q inside),
          ))
          (w.share_of.ensures.share
          ∙ ap (λ (p : PartView). budget_at c.args.budgets.now c.loop-q.q * 2 ^ 32 / p.period) here)
          w.share_of.ensures.at_most refl c.loop-q.invariant))
      | in-Part w ↦
          rw w.asked-is
          (asked_off c.args.sys.now c.args.budgets.now c.loop-q.asked c.loop-q.q _ (stands ∙ w.in-Part.is)
          c.loop-q.invariant)
    ]
