use Rattle.std.proofs.Common.{ℕ, List, Option, OnOk, sym, subst}
use Rattle.slot_model.specs.Task.{sporadic_tasks}
use Rattle.slot_model.specs.Order.{before_of}
use Rattle.slot_model.specs.declared.sched.Sched.{Sched}
use Rattle.guest_sched.specs.Levels.{FirstRunOf}
use Rattle.guest_sched.proofs.level.follow_by.Goals as goal

pub returns-in-Some-clause-followed : goal.returns-in-Some-clause-followed
returns-in-Some-clause-followed g c =
    let level = c.args.level.now in
    subst (λ (s : Sched). OnOk c.follow_level.result ((run : List (Option ℕ)) × FirstRunOf level
    (before_of s (sporadic_tasks level.tasks.now)) run × g.F.Follow.follows c.follow_level.new.follower run))
    c.in-Some.ensures.0 c.follow_level.ensures.followed

pub returns-in-None-clause-followed : goal.returns-in-None-clause-followed
returns-in-None-clause-followed g c =
    let level = c.args.level.now in
    subst (λ (s : Sched). OnOk c.follow_level-in-None.result ((run : List (Option ℕ)) × FirstRunOf level
    (before_of s (sporadic_tasks level.tasks.now)) run × g.F.Follow.follows c.follow_level-in-None.new.follower run))
    (sym c.in-None.ensures) c.follow_level-in-None.ensures.followed
