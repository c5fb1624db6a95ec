use Rattle.std.proofs.Common.{◌≡◌, ◌∙◌, [], get_or, sym}
use Rattle.std.proofs.lemmas.List.{get_or-map}
use Rattle.tree_model.specs.declared.pinned_core.Core.{Core}
use Rattle.tree_model.specs.System.{core_names}
use Rattle.trace_file.proofs.Words.{is_text}
use Rattle.trace_file.proofs.names.is_core_at.Goals as goal

pub returns-then-place-cores : goal.returns-then-place-cores
returns-then-place-cores c h =
    let cores = c.args.cores.now in
    let name : c.as_bytes.result.now ≡ get_or (core_names cores) c.args.place []
    = c.as_bytes.ensures.value
    ∙ (c.as_str.ensures.text
    ∙ sym (get_or-map (λ (z : Core). z.name) cores c.args.place c.index-cores-place.result []
    c.if-place-cores.true)) in (
      c.if-place-cores.true,
      sym name ∙ is_text _ _ (sym c.is_same.ensures ∙ h),
    )
