use Rattle.std.proofs.Common.{rules, ◌≡◌, List, length, refl, ◌∙◌, ap, arith}
use Rattle.std.specs.List.{remove}
use Rattle.tree_model.specs.View.{PartView}
use Rattle.tree_model.specs.Tree.{place_of}
use Rattle.tree_model.specs.System.{part_at}
use Rattle.tree_model.proofs.NodeTasks.{part_here}
use Rattle.admission_session.specs.Leaves.{fallen}
use Rattle.admission_session.proofs.MadeSystems.{remove_keeps}
use Rattle.admission_session.proofs.TakenBack.{put_fewer, put_system, put_is}
use Rattle.admission_session.proofs.trials.try_removal.Goals as goal

pub recompose-requires-clause-kept : goal.recompose-requires-clause-kept
recompose-requires-clause-kept c =
    let here : c.index-parts-q.result ≡ part_at c.args.sys.now c.args.q
    = part_here c.args.sys.now c.parts-parts.result.now c.args.q c.index-parts-q.result c.parts-parts.ensures.parts
    (omega (arith, c.requires.is_part, ap (λ (ps : List PartView). length ps) c.parts-parts.ensures.parts))
    c.index-parts-q.is in
    let fewer : c.replace-was.new.dest ≡ remove c.args.plan.now c.args.q = search rules in
    remove_keeps c.args.sys.now c.take_leaf-leaf.new.sys c.parts-parts.ensures.system c.args.q
    (part_at c.args.sys.now c.args.q).name c.args.plan.now c.replace-was.new.dest c.place-start.result
    c.take_leaf-leaf.ensures.taken fewer
    (c.place-start.ensures
    ∙ ap place_of
    (c.fallen.ensures ∙ ap (fallen c.args.q) (c.parent.ensures ∙ ap (λ (p : PartView). p.parent) here)))
    (record { is_part = c.requires.is_part; is_leaf = c.requires.leaf; is_named = refl }) c.requires.admitted

pub put_back-requires-clause-room : goal.put_back-requires-clause-room
put_back-requires-clause-room c =
    omega (
      arith,
      put_fewer c.args.sys.now c.take_leaf-leaf.new.sys c.args.q c.requires.is_part c.take_leaf-leaf.ensures.taken,
      c.in-Ok.ensures.exact,
      ap (λ (ps : List PartView). length ps) c.parts-parts.ensures.parts,
    )

pub put_back-requires-clause-system : goal.put_back-requires-clause-system
put_back-requires-clause-system c =
    put_system c.args.sys.now c.take_leaf-leaf.new.sys c.args.q c.take_leaf-leaf.result c.parts-parts.ensures.system
    c.requires.is_part c.requires.leaf c.take_leaf-leaf.ensures.taken c.take_leaf-leaf.ensures.leaf

pub returns-in-Err-clause-unchanged : goal.returns-in-Err-clause-unchanged
returns-in-Err-clause-unchanged c =
    let was : c.replace-was.result ≡ c.args.plan.now = search rules in (
      put_is c.args.sys.now c.take_leaf-leaf.new.sys c.put_back.new.sys c.args.q c.take_leaf-leaf.result
          c.parts-parts.ensures.system c.requires.is_part c.requires.leaf c.take_leaf-leaf.ensures.taken
          c.take_leaf-leaf.ensures.leaf c.put_back.ensures,
      was,
    )
