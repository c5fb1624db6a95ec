use Rattle.std.proofs.Common.{ℕ, ◌≡◌, List, sym, ◌∙◌, ap, arith, subst}
use Rattle.slot_model.specs.Task.{SporadicTask, sporadic_task, sporadic_tasks, task_at}
use Rattle.slot_model.proofs.Constrained.{are_constrained}
use Rattle.slot_model.proofs.LegalJobs.{task_at-read}
use Rattle.fp_request.proofs.Parts.{sporadic_tasks-length}
use Rattle.miss_witness.specs.inner.DueLast.{LacksFirst, last_release}
use Rattle.miss_witness.proofs.EndMiss.{end_lacking, end_shows_by, told_at}
use Rattle.miss_witness.proofs.due_last.miss_at_end.Goals as goal

pub lack_at-lack-requires-clause-lacking : goal.lack_at-lack-requires-clause-lacking
lack_at-lack-requires-clause-lacking c =
    end_lacking (sporadic_tasks c.args.tasks.now) (are_constrained c.args.tasks.now) c.args.period
    c.args.defeat.now.budget c.args.span c.requires.some_period c.requires.in_period c.requires.point

pub first_lacking-i-requires-clause-lacking : goal.first_lacking-i-requires-clause-lacking
first_lacking-i-requires-clause-lacking c =
    let some
    = end_lacking (sporadic_tasks c.args.tasks.now) (are_constrained c.args.tasks.now) c.args.period
    c.args.defeat.now.budget c.args.span c.requires.some_period c.requires.in_period c.requires.point in (
      some.0,
      subst (λ (z : ℕ). LacksFirst (sporadic_tasks c.args.tasks.now) c.args.span z some.0)
          (sym c.lack_at-lack.ensures) some.1,
    )

pub returns : goal.returns
returns c =
    let T : List SporadicTask = sporadic_tasks c.args.tasks.now in
    let i : ℕ = c.first_lacking-i.result in
    let lacks = c.first_lacking-i.ensures in
    let task : SporadicTask = sporadic_task c.index-tasks-i.result in
    let here : task_at T i ≡ task
    = task_at-read c.args.tasks.now i c.index-tasks-i.result
    (omega (arith, lacks.is_task, sporadic_tasks-length c.args.tasks.now)) c.index-tasks-i.is in
    end_shows_by T (are_constrained c.args.tasks.now) c.args.period c.args.defeat.now c.requires.some_period
    c.requires.in_period c.requires.at_start c.args.span c.requires.span c.requires.point i
    (subst (λ (z : ℕ). LacksFirst T c.args.span z i) c.lack_at-lack.ensures lacks) _
    (told_at T c.args.defeat.now.start c.args.span c.lack_at-lack.result _ i c.release_in.result c.work_behind.result
    c.index-tasks-i.result.work c.lack_at-lack.ensures
    (c.release_in.ensures ∙ ap (λ (b : SporadicTask). last_release b c.args.span) (sym here)) c.work_behind.ensures
    (ap (λ (b : SporadicTask). b.work) (sym here)))
