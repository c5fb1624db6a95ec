use Rattle.std.proofs.Common.{◌≡◌, sym, ap, ◌∙◌, arith}
use Rattle.std.proofs.lemmas.List.{get_or_default}
use Rattle.tree_model.specs.declared.place.Parent.TheVariants.{Part}
use Rattle.tree_model.specs.View.{PartView}
use Rattle.system_file.specs.inner.Reading.{part_in}
use Rattle.system_file.proofs.parts.parents.Goals as goal

pub index_mut-requires : goal.index_mut-requires
index_mut-requires c =
    let parent : (part_in c.args.parts.now c.loop-part.part-index).parent ≡ Part c.in-Part.place =
    ap (λ (p : PartView). p.parent) (get_or_default c.args.parts.now c.loop-part.part-index _ c.part-item.result
    (omega arith) ∙ sym c.part-item.is ∙ sym c.part.view_is) ∙ c.in-Part.is in
    omega (arith, c.requires.among c.loop-part.part-index c.in-Part.place (omega arith) parent, c.loop-part.invariant.0)
