use Rattle.std.proofs.Common.{◌≡◌, ◌∙◌, arith, subst, sym, ap}
use Rattle.std.proofs.lemmas.List.{length-map}
use Rattle.slot_model.specs.Task.{sporadic_task, sporadic_tasks}
use Rattle.slot_model.specs.Release.{LegalRelease, synchronous}
use Rattle.slot_model.proofs.Constrained.{are_constrained}
use Rattle.slot_model.proofs.Synchronous.{legal_synchronous}
use Rattle.release_pattern.proofs.FewTasks.{a_job_each}
use Rattle.release_pattern.proofs.Moments.{no_moment, up_to_next}
use Rattle.release_pattern.proofs.jobs.synchronous_jobs.Goals as goal

pub loop-after-init : goal.loop-after-init
loop-after-init c = record {
  jobs =
      c.in_ok-jobs.ensures.items ∙ sym (no_moment (sporadic_tasks c.args.tasks.now) c.args.start)
      ∙ ap (synchronous (sporadic_tasks c.args.tasks.now) c.args.start) (omega arith);
  due = c.in_ok-due.ensures;
}

pub push_moment-requires-clause-few : goal.push_moment-requires-clause-few
push_moment-requires-clause-few c =
    omega (
      arith,
      a_job_each (sporadic_tasks c.args.tasks.now) c.args.start c.args.span (omega (arith, c.loop-after-test.true)),
      length-map c.args.tasks.now sporadic_task,
      c.requires.few,
    )

pub loop-after-preserved : goal.loop-after-preserved
loop-after-preserved c = record {
  jobs =
      up_to_next (sporadic_tasks c.args.tasks.now) c.args.start c.loop-after.after c.in_ok-after.after c.args.span
      c.loop-after.jobs.items c.push_moment.new.jobs.items (omega (arith, c.loop-after-test.true))
      c.in_ok-after.ensures.later c.loop-after.invariant.jobs c.in_ok-after.ensures.jobs c.in_ok-after.ensures.none;
  due = c.in_ok-after.ensures.due;
}

pub returns-clause-legal : goal.returns-clause-legal
returns-clause-legal c =
    let T = sporadic_tasks c.args.tasks.now in
    let all : c.loop-after.jobs.items ≡ synchronous T c.args.start c.args.span
    = c.loop-after.invariant.jobs ∙ ap (synchronous T c.args.start) (omega (arith, c.loop-after-test.false)) in
    subst (LegalRelease T) (sym all) (legal_synchronous T (are_constrained c.args.tasks.now) c.args.start c.args.span)
