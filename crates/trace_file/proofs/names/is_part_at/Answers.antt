use Rattle.std.proofs.Common.{◌≡◌, ◌∙◌, [], get_or, sym, ap}
use Rattle.std.proofs.lemmas.List.{get_or-map}
use Rattle.tree_model.specs.View.{PartView}
use Rattle.tree_model.specs.System.{part_names}
use Rattle.trace_file.proofs.Words.{is_text}
use Rattle.trace_file.proofs.names.is_part_at.Goals as goal

pub returns-then-place-parts : goal.returns-then-place-parts
returns-then-place-parts c h =
    let parts = c.args.parts.now in
    let name : c.as_bytes.result.now ≡ get_or (part_names parts) c.args.place []
    = c.as_bytes.ensures.value
    ∙ (c.as_str.ensures.text
    ∙ (c.name.ensures
    ∙ (ap (λ (z : PartView). z.name) c.index-parts-place.is
    ∙ sym (get_or-map (λ (z : PartView). z.name) parts c.args.place c.index-parts-place.result []
    c.if-place-parts.true)))) in (
      c.if-place-parts.true,
      sym name ∙ is_text _ _ (sym c.is_same.ensures ∙ h),
    )
