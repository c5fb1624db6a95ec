use Rattle.std.proofs.Common.{[], ◌∷◌, ◌++◌, ap, ◌∙◌, arith}
use Rattle.slot_model.proofs.HandedOn.{handed_on}
use Rattle.system_file.specs.Document.{spelled_core}
use Rattle.system_file.specs.Faults.{core_faults}
use Rattle.system_file.proofs.Along.{before, before_more, length_before, faulty, faultless, spelled_more}
use Rattle.system_file.proofs.cores.read_cores.Goals as goal

pub returns-in_err-core-clause-fault : goal.returns-in_err-core-clause-fault
returns-in_err-core-clause-fault c =
    let step = c.from_residual-in_err-core in
    handed_on step.result _ _ step.ensures.1 (λ memory.
    faulty core_faults c.args.values.now c.loop-place.place c.index-values-place.result _ (omega arith)
    c.index-values-place.is c.loop-place.invariant.2
    (rw (length_before c.args.values.now c.loop-place.place (omega arith))
    (c.in_err-core.ensures.fault memory (before c.args.values.now c.loop-place.place) c.loop-place.invariant.1)))

pub loop-place-preserved : goal.loop-place-preserved
loop-place-preserved c =
    let ok = c.in_ok-core.ensures.ok (before c.args.values.now c.loop-place.place) c.loop-place.invariant.1 in (
      c.in_ok-push.ensures.items ∙ ap (λ items. items ++ c.in_ok-core.core ∷ []) c.loop-place.invariant.0
          ∙ spelled_more spelled_core c.args.values.now c.loop-place.place c.index-values-place.result _ (omega arith)
          c.index-values-place.is ok.1,
      rw (before_more c.args.values.now c.loop-place.place c.index-values-place.result (omega arith)
          c.index-values-place.is) ok.2,
      faultless core_faults c.args.values.now c.loop-place.place c.index-values-place.result (omega arith)
          c.index-values-place.is c.loop-place.invariant.2
          (rw (length_before c.args.values.now c.loop-place.place (omega arith)) ok.0),
    )
