use Rattle.std.proofs.Common.{◌≡◌, length, arith, sym, ◌∙◌, subst}
use Rattle.slot_model.specs.Task.{sporadic_tasks}
use Rattle.guest_sched.proofs.Given.{slots-long}
use Rattle.span_counts.specs.inner.Services.{AreDues}
use Rattle.span_counts.proofs.Following.{are_services}
use Rattle.span_counts.proofs.services.services_by.Goals as goal

pub returns-clause-served : goal.returns-clause-served
returns-clause-served c =
    let level = c.args.level.now in
    let T = sporadic_tasks level.tasks.now in
    let jobs = level.jobs.now in
    let r = c.in_ok-follow_by.ensures.followed in
    let after = c.follow_by.new.follower in
    let dues : AreDues T jobs after.dues.items
    = subst (AreDues T jobs) (sym c.in_ok-follow_by.ensures.same) c.in_ok-services.ensures.dues in
    let long : length r.0 ≡ level.slots = r.1.long ∙ slots-long level.given.now level.slots in (
      r.0,
      r.1,
      long,
      are_services T jobs after.dues.items r.0 after.got.items dues (omega (arith, long, c.type_inv.level)) r.2,
    )
