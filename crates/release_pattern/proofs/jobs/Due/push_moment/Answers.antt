use Rattle.std.proofs.Common.{◌≡◌, ℕ, ◌+◌, ◌-◌, ◌*◌, ◌<◌, ◌≤◌, min, List, length, set, length-set, refl, arith, subst, sym, ap, ◌∙◌}
use Rattle.std.proofs.lemmas.List.{length-map}
use Rattle.slot_model.specs.Release.{releases_at}
use Rattle.slot_model.specs.Task.{SporadicTask, sporadic_task, sporadic_tasks}
use Rattle.release_pattern.specs.inner.Due.{IsSoonest}
use Rattle.release_pattern.proofs.Dues.{MomentTo, MomentTurn, up_to_group, next_group, moment_over, none_before_next, due_next, firsts_next, shrinks}
use Rattle.release_pattern.proofs.Moments.{no_task}
use Rattle.release_pattern.proofs.jobs.Due.push_moment.Goals as goal
use Rattle.release_pattern.proofs.jobs.Due.push_moment.Goals.{After-soonest-turn}

pub loop-turn-init : goal.loop-turn-init
loop-turn-init c =
    let T : List SporadicTask = sporadic_tasks c.args.tasks.now in
    record {
      so_far = record {
        group = 0;
        within = omega arith;
        so_far = record {
          jobs_so_far =
              sym (no_task T c.args.start c.args.after c.args.jobs.now.items)
              ∙ ap (λ (z : ℕ). releases_at T c.args.start c.args.after z c.args.jobs.now.items) (omega arith);
          each = c.requires.due.each;
          firsts = c.requires.due.firsts;
        };
        no_more = c.requires.due.no_more;
        turn_is = c.requires.due.next;
      };
      as_many = refl;
    }

pub push_group-requires-clause-due : goal.push_group-requires-clause-due
push_group-requires-clause-due c =
    (up_to_group (sporadic_tasks c.args.tasks.now) c.args.start c.args.after c.args.jobs.now.items
    c.loop-turn.jobs.items c.loop-turn.self.tasks.items c.loop-turn.self.groups.items c.loop-turn.self.offsets.items
    c.loop-turn.turn (omega (arith, c.requires.in_time)) c.loop-turn-test.true c.loop-turn.invariant.so_far).each

-- after a turn the groups up to its own have passed, and the next turn is of a later one
turned : (c : After-soonest-turn)
    → MomentTurn (sporadic_tasks c.args.tasks.now) c.args.start c.args.after c.args.jobs.now.items
    c.push_group.new.jobs.items c.push_group.new.self.tasks.items
    (set c.loop-turn.self.groups.items c.loop-turn.turn.place c.in_ok-next.next.moment)
    (set c.loop-turn.self.offsets.items c.loop-turn.turn.place (c.in_ok-next.next.place - 8 * c.loop-turn.turn.place))
    c.soonest-turn.result
    × (c.soonest-turn.result.moment ≡ c.args.after → c.loop-turn.turn.place < c.soonest-turn.result.place)
turned c =
    let T : List SporadicTask = sporadic_tasks c.args.tasks.now in
    let old = c.loop-turn.self.groups.items in let offsets = c.loop-turn.self.offsets.items in
    let turn = c.loop-turn.turn in let first = c.in_ok-next.next in let next = c.soonest-turn.result in
    let t = c.loop-turn.invariant.so_far in
    let same : c.push_group.new.self.groups.items ≡ old = ap (λ v. v.items) c.in_ok-next.ensures.groups in
    let long : c.len-groups.result ≡ length old = omega (arith, c.len-groups.ensures, c.loop-turn.invariant.as_many) in
    let soonest : IsSoonest (set old turn.place first.moment) 0 (length old) next
    = subst (λ (n : ℕ). IsSoonest (set old turn.place first.moment) 0 n next) long
    (subst (λ (z : List ℕ). IsSoonest (set z turn.place first.moment) 0 c.len-groups.result next) same
    (subst (λ (z : List ℕ). IsSoonest z 0 c.len-groups.result next) c.deref.ensures.value c.soonest-turn.ensures)) in
    let up_to : MomentTo T c.args.start c.args.after turn.place c.args.jobs.now.items c.loop-turn.jobs.items
    c.loop-turn.self.tasks.items old offsets
    = up_to_group T c.args.start c.args.after c.args.jobs.now.items c.loop-turn.jobs.items
    c.loop-turn.self.tasks.items old offsets turn (omega (arith, c.requires.in_time)) c.loop-turn-test.true t in
    let inside : turn.place < length old
    = (t.turn_is.stands (omega (arith, c.loop-turn-test.true, c.requires.in_time))).0 in
    let begin : min (8 * turn.place) (length T) ≡ 8 * turn.place = omega (arith, inside, t.no_more) in
    let added : c.push_group.new.jobs.items
    ≡ releases_at T c.args.start c.args.after (min (8 * turn.place + 8) (length T)) c.args.jobs.now.items
    = c.in_ok-next.ensures.jobs c.args.jobs.now.items (up_to.jobs_so_far
    ∙ ap (λ (z : ℕ). releases_at T c.args.start c.args.after z c.args.jobs.now.items) begin) in
    let is : IsSoonest c.push_group.new.self.tasks.items (8 * turn.place) (min (8 * turn.place + 8) (length T)) first
    = subst (λ (n : ℕ). IsSoonest c.push_group.new.self.tasks.items (8 * turn.place) (min (8 * turn.place + 8) n) first)
    (sym (length-map c.args.tasks.now sporadic_task)) c.in_ok-next.ensures.next in
    next_group T c.args.start c.args.after c.args.jobs.now.items c.loop-turn.jobs.items c.push_group.new.jobs.items
    c.loop-turn.self.tasks.items c.push_group.new.self.tasks.items old offsets turn first next
    (omega (arith, c.requires.in_time)) c.loop-turn-test.true t added c.in_ok-next.ensures.due
    c.in_ok-next.ensures.same c.in_ok-next.ensures.later is soonest

pub loop-turn-preserved : goal.loop-turn-preserved
loop-turn-preserved c =
    let T : List SporadicTask = sporadic_tasks c.args.tasks.now in
    let old = c.loop-turn.self.groups.items in
    let turn = c.loop-turn.turn in let first = c.in_ok-next.next in
    let same : c.push_group.new.self.groups.items ≡ old = ap (λ v. v.items) c.in_ok-next.ensures.groups in
    record {
      so_far =
          subst (λ (z : List ℕ). MomentTurn T c.args.start c.args.after c.args.jobs.now.items
          c.push_group.new.jobs.items c.push_group.new.self.tasks.items (set z turn.place first.moment)
          (set c.push_group.new.self.offsets.items turn.place (first.place - 8 * turn.place)) c.soonest-turn.result)
          (sym same)
          (subst (λ (z : List ℕ). MomentTurn T c.args.start c.args.after c.args.jobs.now.items
          c.push_group.new.jobs.items c.push_group.new.self.tasks.items (set old turn.place first.moment)
          (set z turn.place (first.place - 8 * turn.place)) c.soonest-turn.result)
          (sym (ap (λ v. v.items) c.in_ok-next.ensures.offsets))
          (turned (goal.at.loop-turn-preserved c).After-soonest-turn).0);
      as_many = ap (λ (z : List ℕ). length (set z turn.place first.moment)) same
          ∙ (length-set old turn.place first.moment ∙ c.loop-turn.invariant.as_many);
    }

pub loop-turn-smaller : goal.loop-turn-smaller
loop-turn-smaller c =
    let turn = c.loop-turn.turn in
    shrinks turn.moment c.soonest-turn.result.moment c.args.after turn.place c.soonest-turn.result.place
    c.len-groups.result c.loop-turn-test.true (omega (
      arith,
      (c.loop-turn.invariant.so_far.turn_is.stands (omega (arith, c.loop-turn-test.true, c.requires.in_time))).0,
      c.len-groups.ensures,
      c.loop-turn.invariant.as_many,
    )) (turned (goal.at.loop-turn-smaller c).After-soonest-turn).1

pub returns-clause-jobs : goal.returns-clause-jobs
returns-clause-jobs c =
    let T : List SporadicTask = sporadic_tasks c.args.tasks.now in
    let over : MomentTo T c.args.start c.args.after (length c.loop-turn.self.groups.items) c.args.jobs.now.items
    c.loop-turn.jobs.items c.loop-turn.self.tasks.items c.loop-turn.self.groups.items c.loop-turn.self.offsets.items
    = moment_over T c.args.start c.args.after c.args.jobs.now.items c.loop-turn.jobs.items
    c.loop-turn.self.tasks.items c.loop-turn.self.groups.items c.loop-turn.self.offsets.items c.loop-turn.turn
    (omega (arith, c.requires.in_time)) c.loop-turn-test.false c.loop-turn.invariant.so_far in
    over.jobs_so_far
    ∙ ap (λ (z : ℕ). releases_at T c.args.start c.args.after z c.args.jobs.now.items)
    (omega (arith, c.loop-turn.invariant.as_many, c.requires.due.all))

pub returns-clause-none : goal.returns-clause-none
returns-clause-none c =
    none_before_next (sporadic_tasks c.args.tasks.now) c.args.start c.args.after c.args.jobs.now.items
    c.loop-turn.jobs.items c.loop-turn.self.tasks.items c.loop-turn.self.groups.items c.loop-turn.self.offsets.items
    c.loop-turn.turn (omega (arith, c.requires.in_time)) c.loop-turn-test.false c.loop-turn.invariant.so_far
    (omega (arith, c.loop-turn.invariant.as_many, c.requires.due.all))

pub returns-clause-due : goal.returns-clause-due
returns-clause-due c =
    let T : List SporadicTask = sporadic_tasks c.args.tasks.now in
    let t = c.loop-turn.invariant.so_far in
    let all : length T ≤ 8 * length c.loop-turn.self.groups.items
    = omega (arith, c.loop-turn.invariant.as_many, c.requires.due.all) in
    record {
      each =
          due_next T c.args.start c.args.after c.args.jobs.now.items c.loop-turn.jobs.items
          c.loop-turn.self.tasks.items c.loop-turn.self.groups.items c.loop-turn.self.offsets.items c.loop-turn.turn
          (omega (arith, c.requires.in_time)) c.loop-turn-test.false t all;
      firsts =
          firsts_next T c.args.start c.args.after c.args.jobs.now.items c.loop-turn.jobs.items
          c.loop-turn.self.tasks.items c.loop-turn.self.groups.items c.loop-turn.self.offsets.items c.loop-turn.turn
          t;
      all = all;
      no_more = t.no_more;
      next = t.turn_is;
    }
