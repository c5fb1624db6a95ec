use Rattle.std.proofs.Common.{ℕ, Option, true, refl, arith, subst, sym}
use Rattle.slot_model.specs.Task.{sporadic_tasks}
use Rattle.guest_sched.specs.inner.Ready.{IsServed}
use Rattle.guest_sched.proofs.State.{all_in_jobs}
use Rattle.guest_sched.proofs.ready.Ready.serve.Goals as goal

pub choose-requires-clause-in_jobs : goal.choose-requires-clause-in_jobs
choose-requires-clause-in_jobs g c k d l =
    let s = c.args.self.now in
    omega (
      arith,
      c.requires.all_jobs,
      all_in_jobs s.releases.items s.released s.keys.all.items s.left.items s.ends.items s.ready s.soonest s.time
          s.ready c.requires.state refl k d l,
    )

pub returns-in-Some-clause-served : goal.returns-in-Some-clause-served
returns-in-Some-clause-served g c =
    subst (λ (o : Option ℕ). IsServed (g.O.Order.goes c.args.order.now (sporadic_tasks c.args.tasks.now))
    c.args.jobs.now c.args.self.now.ready true o) (sym c.give.ensures.job) c.in-Some.ensures.1
