use Rattle.std.proofs.Common.{◌≡◌, arith, ap, sym, ◌∙◌}
use Rattle.std.proofs.lemmas.List.{length-map}
use Rattle.slot_model.specs.Task.{SporadicTask, sporadic_task, sporadic_tasks, task_at}
use Rattle.slot_model.proofs.Constrained.{are_constrained}
use Rattle.slot_model.proofs.LegalJobs.{task_at-read}
use Rattle.slot_model.proofs.Synchronous.{early_at, early_at-start, early_at-later}
use Rattle.release_pattern.proofs.Moments.{released_next}
use Rattle.release_pattern.proofs.jobs.push_release.Goals as goal
use Rattle.release_pattern.proofs.jobs.push_release.Goals.{then-after-eq0, else-after-eq0}

pub returns-clause-next : goal.returns-clause-next
returns-clause-next c =
    let T = sporadic_tasks c.args.tasks.now in
    let task = c.index-tasks-place.result in
    let read : task_at T c.args.place ≡ sporadic_task task
    = task_at-read c.args.tasks.now c.args.place task c.requires.is_task c.index-tasks-place.is in
    let jitter : (task_at T c.args.place).jitter ≡ task.jitter = ap (λ (t : SporadicTask). t.jitter) read in
    let period : (task_at T c.args.place).period ≡ task.period = ap (λ (t : SporadicTask). t.period) read in
    let early : c.if-after-eq0.early ≡ early_at c.args.after (task_at T c.args.place).jitter =
    elim c.if-after-eq0.branch [
      | then-after-eq0 w ↦
          w.early-is ∙ sym jitter
          ∙ sym (early_at-start c.args.after (task_at T c.args.place).jitter (omega (arith, w.if-after-eq0.true)))
      | else-after-eq0 w ↦
          w.early-is
          ∙ sym (early_at-later c.args.after (task_at T c.args.place).jitter (omega (arith, w.if-after-eq0.false)))
    ] in
    released_next (task_at T c.args.place) c.args.after c.if-after-eq0.early c.saturating_add.result
    (are_constrained c.args.tasks.now c.args.place
    (omega (arith, c.requires.is_task, length-map c.args.tasks.now sporadic_task))) c.requires.due early
    (omega (arith, c.saturating_add.ensures, period)) (omega (arith, c.requires.in_time))
