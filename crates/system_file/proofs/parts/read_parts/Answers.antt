use Rattle.std.proofs.Common.{◌+◌, [], ◌∷◌, ◌++◌, map, length-append, sym, ap, ◌∙◌, refl, arith}
use Rattle.toml_items.specs.Item.{item_view}
use Rattle.system_file.specs.Document.{spelled_part}
use Rattle.system_file.specs.Faults.{part_faults}
use Rattle.slot_model.proofs.HandedOn.{handed_on}
use Rattle.system_file.proofs.Along.{before, from, before_more, known_at, all_values, faulty, faultless, spelled_more}
use Rattle.system_file.proofs.parts.read_parts.Goals as goal

pub returns-in_err-part-clause-fault : goal.returns-in_err-part-clause-fault
returns-in_err-part-clause-fault c =
    let step = c.from_residual-in_err-part in
    handed_on step.result _ _ step.ensures.1 (λ memory cores counted have.
    let so_far = c.loop-value.invariant.2 cores counted have in
    faulty (part_faults c.args.format cores) c.args.values.now c.loop-value.value-index c.value-item.result _
    (omega arith) c.value-item.is so_far.1 (c.in_err-part.ensures.fault memory cores _ _
    (known_at c.args.values.now c.loop-value.value-index c.value-item.result (omega arith) c.value-item.is
    c.deref.ensures.value so_far.0)))

pub returns-in_err-push-clause-fault : goal.returns-in_err-push-clause-fault
returns-in_err-push-clause-fault c =
    let step = c.from_residual-in_err-push in
    handed_on step.result _ _ step.ensures.1 (λ memory cores counted have. absurd (memory refl))

pub loop-value-preserved : goal.loop-value-preserved
loop-value-preserved c = (
  rw (c.in_ok-push.ensures.items, length-append) (omega (arith, c.loop-value.invariant.0)),
  omega (arith, c.in_ok-part.ensures.named, c.loop-value.invariant.1),
  λ cores counted have.
      let so_far = c.loop-value.invariant.2 cores counted have in
      let known
      = known_at c.args.values.now c.loop-value.value-index c.value-item.result (omega arith) c.value-item.is
      c.deref.ensures.value so_far.0 in
      let ok = c.in_ok-part.ensures.ok cores _ _ known in (
        record {
          counted = counted;
          named =
              rw
              (before_more c.args.values.now c.loop-value.value-index c.value-item.result (omega arith) c.value-item.is)
              ok.2;
          spelled =
              c.in_ok-push.ensures.items
              ∙ ap (λ parts. parts ++ c.in_ok-part.part ∷ []) (sym c.deref.ensures.value ∙ known.spelled)
              ∙ spelled_more (spelled_part cores (before c.args.values.now c.loop-value.value-index
              ++ item_view c.value-item.result ∷ from c.args.values.now (c.loop-value.value-index + 1)))
              c.args.values.now c.loop-value.value-index c.value-item.result c.in_ok-part.part (omega arith)
              c.value-item.is ok.1
              ∙ ap (λ all. map (spelled_part cores all) (before c.args.values.now (c.loop-value.value-index + 1)))
              (all_values c.args.values.now c.loop-value.value-index c.value-item.result (omega arith) c.value-item.is);
        },
        faultless (part_faults c.args.format cores) c.args.values.now c.loop-value.value-index c.value-item.result
            (omega arith) c.value-item.is so_far.1 ok.0,
      ),
)
