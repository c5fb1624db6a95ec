use Rattle.std.proofs.Common.{◌≡◌, ℕ, ◌+◌, ◌*◌, ◌≤◌, List, length, arith, subst, ap, ◌∙◌}
use Rattle.std.proofs.lemmas.List.{length-map}
use Rattle.slot_model.specs.Release.{releases_at}
use Rattle.slot_model.specs.Task.{SporadicTask, sporadic_task, sporadic_tasks}
use Rattle.release_pattern.specs.inner.Due.{IsSoonest}
use Rattle.release_pattern.proofs.Dues.{GroupTo, next_turn, next_later, group_over, shrinks, past_last}
use Rattle.release_pattern.proofs.jobs.Due.push_group.Goals as goal

pub loop-turn-preserved : goal.loop-turn-preserved
loop-turn-preserved c =
    let T : List SporadicTask = sporadic_tasks c.args.tasks.now in
    let from : ℕ = 8 * c.args.group in let until : ℕ = from + c.min.result in
    let inside : until ≤ length T
    = omega (arith, length-map c.args.tasks.now sporadic_task, c.min.ensures, c.requires.in_tasks) in
    record {
      so_far =
          next_turn T c.args.start c.args.after from until c.in_ok-next.next c.args.self.now.tasks.items
          c.loop-turn.self.tasks.items c.args.jobs.now.items c.loop-turn.jobs.items c.push_release.new.jobs.items
          c.loop-turn.turn c.soonest-turn.result inside (omega (arith, c.requires.in_time))
          c.loop-turn-test.true c.loop-turn.invariant.so_far c.in_ok-next.ensures.next c.in_ok-next.ensures.job
          (subst (λ (z : List ℕ). IsSoonest z from until c.soonest-turn.result)
          c.deref.ensures.value c.soonest-turn.ensures);
      groups = c.loop-turn.invariant.groups;
      offsets = c.loop-turn.invariant.offsets;
    }

pub loop-turn-smaller : goal.loop-turn-smaller
loop-turn-smaller c =
    let T : List SporadicTask = sporadic_tasks c.args.tasks.now in
    let from : ℕ = 8 * c.args.group in let until : ℕ = from + c.min.result in
    let inside : until ≤ length T
    = omega (arith, length-map c.args.tasks.now sporadic_task, c.min.ensures, c.requires.in_tasks) in
    let turn = c.loop-turn.turn in let next = c.soonest-turn.result in
    shrinks turn.moment next.moment c.args.after turn.place next.place until c.loop-turn-test.true
    (omega (
      arith,
      (c.loop-turn.invariant.so_far.turn_is.stands (omega (arith, c.loop-turn-test.true, c.requires.in_time))).0,
    ))
    (next_later T c.args.start c.args.after from until c.in_ok-next.next c.args.self.now.tasks.items
    c.loop-turn.self.tasks.items c.args.jobs.now.items c.loop-turn.jobs.items c.push_release.new.jobs.items turn next
    inside (omega (arith, c.requires.in_time)) c.loop-turn-test.true c.loop-turn.invariant.so_far
    c.in_ok-next.ensures.next c.in_ok-next.ensures.job
    (subst (λ (z : List ℕ). IsSoonest z from until next) c.deref.ensures.value
    c.soonest-turn.ensures))

pub returns-clause-jobs : goal.returns-clause-jobs
returns-clause-jobs c =
    let T : List SporadicTask = sporadic_tasks c.args.tasks.now in
    let from : ℕ = 8 * c.args.group in let until : ℕ = from + c.min.result in
    let long : length T ≡ length c.args.tasks.now = length-map c.args.tasks.now sporadic_task in
    λ earlier e. (group_over T c.args.start c.args.after from until c.args.self.now.tasks.items
    c.loop-turn.self.tasks.items c.args.jobs.now.items c.loop-turn.jobs.items c.loop-turn.turn
    (omega (arith, long, c.min.ensures, c.requires.in_tasks)) (omega (arith, c.requires.in_time))
    c.loop-turn-test.false c.loop-turn.invariant.so_far).jobs_so_far earlier e
    ∙ ap (λ (z : ℕ). releases_at T c.args.start c.args.after z earlier)
    (omega (arith, long, c.min.ensures, c.requires.in_tasks))

pub returns-clause-due : goal.returns-clause-due
returns-clause-due c =
    let T : List SporadicTask = sporadic_tasks c.args.tasks.now in
    let from : ℕ = 8 * c.args.group in let until : ℕ = from + c.min.result in
    let long : length T ≡ length c.args.tasks.now = length-map c.args.tasks.now sporadic_task in
    let over : GroupTo T c.args.start c.args.after from until c.args.self.now.tasks.items c.loop-turn.self.tasks.items
    c.args.jobs.now.items c.loop-turn.jobs.items
    = group_over T c.args.start c.args.after from until c.args.self.now.tasks.items c.loop-turn.self.tasks.items
    c.args.jobs.now.items c.loop-turn.jobs.items c.loop-turn.turn
    (omega (arith, long, c.min.ensures, c.requires.in_tasks)) (omega (arith, c.requires.in_time))
    c.loop-turn-test.false c.loop-turn.invariant.so_far in
    past_last T until (8 * c.args.group + 8) c.args.after c.loop-turn.self.tasks.items over.each
    (omega (arith, long, c.min.ensures, c.requires.in_tasks)) (omega (arith, c.min.ensures))
