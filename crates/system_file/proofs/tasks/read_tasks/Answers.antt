use Rattle.std.proofs.Common.{[], ◌∷◌, ◌++◌, ap, ◌∙◌, arith}
use Rattle.slot_model.proofs.HandedOn.{handed_on}
use Rattle.system_file.specs.Document.{spelled_task}
use Rattle.system_file.specs.Faults.{task_faults}
use Rattle.system_file.proofs.Along.{before, before_more, length_before, faulty, faultless, spelled_more}
use Rattle.system_file.proofs.tasks.read_tasks.Goals as goal

pub returns-in_err-task-clause-fault : goal.returns-in_err-task-clause-fault
returns-in_err-task-clause-fault c =
    let step = c.from_residual-in_err-task in
    handed_on step.result _ _ step.ensures.1 (λ memory.
    faulty (task_faults c.args.format c.args.part) c.args.values.now c.loop-place.place c.index-values-place.result _
    (omega arith) c.index-values-place.is c.loop-place.invariant.2
    (rw (length_before c.args.values.now c.loop-place.place (omega arith))
    (c.in_err-task.ensures.fault memory (before c.args.values.now c.loop-place.place) c.loop-place.invariant.1)))

pub loop-place-preserved : goal.loop-place-preserved
loop-place-preserved c =
    let ok = c.in_ok-task.ensures.ok (before c.args.values.now c.loop-place.place) c.loop-place.invariant.1 in (
      c.in_ok-push.ensures.items ∙ ap (λ items. items ++ c.in_ok-task.task ∷ []) c.loop-place.invariant.0
          ∙ spelled_more spelled_task c.args.values.now c.loop-place.place c.index-values-place.result _ (omega arith)
          c.index-values-place.is ok.1,
      rw (before_more c.args.values.now c.loop-place.place c.index-values-place.result (omega arith)
          c.index-values-place.is) ok.2,
      faultless (task_faults c.args.format c.args.part) c.args.values.now c.loop-place.place c.index-values-place.result
          (omega arith) c.index-values-place.is c.loop-place.invariant.2
          (rw (length_before c.args.values.now c.loop-place.place (omega arith)) ok.0),
    )
