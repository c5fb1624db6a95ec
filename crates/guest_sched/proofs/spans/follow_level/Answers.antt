use Rattle.std.proofs.Common.{◌≡◌, ◌≢◌, ℕ, ◌+◌, ◌-◌, ◌<◌, ◌≤◌, Bool, true, List, [], ◌++◌, Option, Some, None, length, get_or, replicate, refl, sym, ◌∙◌, ap, arith, subst, inl, inr, IfSome}
use Rattle.std.specs.Prelude.{All}
use Rattle.std.proofs.lemmas.Bool.{cases_eq}
use Rattle.std.proofs.lemmas.List.{get_or_default, length-map}
use Rattle.std.proofs.lemmas.Option.{same_Some}
use Rattle.slot_model.specs.declared.job.Job.{Job}
use Rattle.slot_model.specs.declared.task.Task.{Task}
use Rattle.slot_model.specs.Task.{SporadicTask, default_job, task_at, sporadic_task, sporadic_tasks}
use Rattle.slot_model.specs.Release.{LegalRelease}
use Rattle.slot_model.specs.Run.{FirstRunTo}
use Rattle.slot_model.proofs.FirstRuns.{none_some}
use Rattle.guest_sched.specs.declared.ready.Ready.{Ready}
use Rattle.guest_sched.specs.declared.released.ReleasedLevel.{ReleasedLevel}
use Rattle.guest_sched.specs.Levels.{level_of, FirstRunOf}
use Rattle.guest_sched.specs.inner.Ready.{IsReady, HaveCome, AreToCome, HasKeys, IsServed}
use Rattle.guest_sched.proofs.Best.{keys_kept}
use Rattle.guest_sched.specs.Spans.{Window, slots_of, entries_of, window_at, AreWindows}
use Rattle.guest_sched.proofs.Given.{AreOver, slots-long, slot_at, none_given, all_given}
use Rattle.guest_sched.proofs.State.{ready_in}
use Rattle.guest_sched.proofs.Steps.{KeptOf, IsCurrent, Serves, AreGiven, kept_start, kept_gap, kept_more, served_stands}
use Rattle.guest_sched.proofs.spans.follow_level.Goals as goal
use Rattle.guest_sched.proofs.spans.follow_level.Goals.{In_ok-pass_until, In_ok-catch_up, After-serve-span}

pub loop-at-init : goal.loop-at-init
loop-at-init g c =
    let level = c.args.level.now in
    let made = c.in_ok-ready.ensures in
    let kept
    = kept_start (level_of level.keep) (g.O.Order.goes c.args.order.now (sporadic_tasks level.tasks.now))
    (sporadic_tasks level.tasks.now) level.jobs.now (slots_of level.given.now level.slots) c.in_ok-ready.ready
    made.time made.releases made.state made.none_come made.left made.ends in
    record {
      so_far = ([], kept, c.requires.begins);
      followed = ([], sym made.time, c.requires.begins);
      is_state = made.state;
      come = kept.come;
      long = kept.long;
      takes = c.requires.takes;
      same = refl;
      keys = made.keys;
      in_list = omega arith;
      over = λ i l. absurd (omega arith);
      next = λ l. omega (arith, made.time, level.windows.some 0 l);
      in_slots = omega (arith, made.time);
    }

in_jitter_each : (tasks : List SporadicTask) (jobs : List Job) → LegalRelease tasks jobs → (d : Job) (k : ℕ)
    → k < length jobs → (get_or jobs k d).early ≤ (task_at tasks (get_or jobs k d).task).jitter
in_jitter_each tasks jobs h d k l =
    subst (λ (a : Job). a.early ≤ (task_at tasks a.task).jitter) (get_or_default jobs k default_job d l)
    (h.in_jitter k l)

named_each : (tasks : List Task) (jobs : List Job) → LegalRelease (sporadic_tasks tasks) jobs
    → All (λ (a : Job). a.task < length tasks) jobs
named_each tasks jobs h = λ k d l. omega (
  arith,
  h.named k l,
  ap (λ (a : Job). a.task) (get_or_default jobs k d default_job l),
  length-map tasks sporadic_task,
)

pub serve-span-requires-clause-in_jitter : goal.serve-span-requires-clause-in_jitter
serve-span-requires-clause-in_jitter g c =
    let level = c.args.level.now in
    λ k d l. in_jitter_each (sporadic_tasks level.tasks.now) level.jobs.now level.legal d k l

pub serve-span-requires-clause-named : goal.serve-span-requires-clause-named
serve-span-requires-clause-named g c =
    let level = c.args.level.now in
    named_each level.tasks.now level.jobs.now level.legal

where_some : (o : Option ℕ) (P : ℕ → Type 0) → IfSome o P → (p : ℕ) → o ≡ Some p → P p
where_some None P h p e = absurd (none_some None p refl e)
where_some (Some q) P h p e = subst P (same_Some q p e) h

some_where : (o : Option ℕ) (P : ℕ → Type 0) → ((p : ℕ) → o ≡ Some p → P p) → IfSome o P
some_where None P h = tt
some_where (Some p) P h = h p refl

-- the keys where only the time goes by
keys_later : (before : Job → Job → Bool) (jobs : List Job) (old new : Ready) → new ≡ record old { time = new.time }
    → HasKeys before jobs old → HasKeys before jobs new
keys_later before jobs old new same h = subst (λ (s : Ready). HasKeys before jobs s) (sym same) h

-- the window of a moment, and the next one where it is over
window_passed : (windows : List Window) (n at next from now : ℕ) → AreWindows windows n → at < length windows
    → AreOver windows at from → from ≤ now → now ≤ (window_at windows at).until
    → ((window_at windows at).until ≡ now → next ≡ at + 1) → ((window_at windows at).until ≢ now → next ≡ at)
    → (next ≤ length windows) × AreOver windows next now
    × (next < length windows → now < (window_at windows next).until)
window_passed windows n at next from now h l over m u ends stays = elim (cases_eq (window_at windows at).until now) [
  | inl e ↦ (
    omega (arith, ends e),
    (λ i k. elim (cases_eq i at) [
      | inl q ↦
          omega (arith, e, ap (λ (z : ℕ). (window_at windows z).until) q)
      | inr ne ↦
          omega (arith, over i (omega (arith, ends e)))
    ]),
    λ k. omega (
      arith,
      e,
      ends e,
      h.in_turn at (omega (arith, ends e)),
      h.some (at + 1) (omega (arith, ends e)),
      ap (λ (z : ℕ). (window_at windows z).until) (ends e),
    ),
  )
  | inr ne ↦ (
    omega (arith, stays ne),
    (λ i k. omega (arith, over i (omega (arith, stays ne)))),
    λ k. omega (arith, u, ne, stays ne, ap (λ (z : ℕ). (window_at windows z).until) (stays ne)),
  )
]

-- the keys when the jobs have come
keys_come : (g : _) (c : In_ok-catch_up g)
    → HasKeys (g.O.Order.goes c.args.order.now (sporadic_tasks c.args.level.now.tasks.now)) c.args.level.now.jobs.now
    c.catch_up.new.self
keys_come g c =
    let level = c.args.level.now in
    let before = g.O.Order.goes c.args.order.now (sporadic_tasks level.tasks.now) in
    keys_kept before level.jobs.now c.pass_until.new.ready c.catch_up.new.self c.in_ok-catch_up.ensures.keys
    (keys_later before level.jobs.now c.loop-at.ready c.pass_until.new.ready c.in_ok-pass_until.ensures.rest
    c.loop-at.invariant.keys)

pub serve-span-requires-clause-keys : goal.serve-span-requires-clause-keys
serve-span-requires-clause-keys g c = keys_come g (goal.at.serve-span-requires-clause-keys g c).In_ok-catch_up

-- a job that is served has a place
has_place : (before : Job → Job → Bool) (jobs : List Job) (came : Ready) (entry : Option ℕ) (j : ℕ) → IsReady came
    → IsServed before jobs came.ready true entry → entry ≡ Some j → j < length came.left.items
has_place before jobs came entry j h served e =
    ready_in came.releases.items came.released came.keys.all.items came.left.items came.ends.items came.ready
    came.soonest came.time h j (served_stands before jobs came.ready true entry j served e)

pub add-requires-clause-is_taken : goal.add-requires-clause-is_taken
add-requires-clause-is_taken g c =
    let jobs = c.args.level.now.jobs.now in
    let caught = c.in_ok-catch_up.ensures in
    let passed = c.in_ok-pass_until.ensures in
    some_where c.serve-span.result.job (λ j. g.F.Follow.takes c.pass_until.new.follower j) (λ j e.
    passed.takes j (c.loop-at.invariant.takes j (omega (
      arith,
      has_place (g.O.Order.goes c.args.order.now (sporadic_tasks c.args.level.now.tasks.now)) jobs
          c.catch_up.new.self c.serve-span.result.job j caught.state c.serve-span.ensures.served e,
      ap (λ v. length v.items) caught.left,
      ap (λ (s : Ready). length s.left.items) passed.rest,
      c.loop-at.invariant.long,
    ))))

-- what is kept of the run up to the next window, or to the end where none is left
over_gap : (level : ReleasedLevel) (before : Job → Job → Bool) (at until : ℕ) (run : List (Option ℕ))
    (old after : Ready) → AreOver level.given.now at old.time → until ≤ level.slots
    → (at < length level.given.now → until ≡ (window_at level.given.now at).from) → KeptOf level before run old
    → after ≡ record old { time = after.time } → after.time ≡ old.time + (until - old.time) → IsReady after
    → KeptOf level before (run ++ replicate (until - old.time) None) after
over_gap level before at until run old after over most e kept rest time state =
    kept_gap (level_of level.keep) before (sporadic_tasks level.tasks.now) level.jobs.now
    (slots_of level.given.now level.slots) run (run ++ replicate (until - old.time) None) old after until kept
    (λ x a b. slot_at level.given.now level.slots x (omega (arith, most))
    ∙ none_given level.given.now level.slots at old.time x level.windows over a (λ l. omega (arith, e l, b))) rest time
    state refl

-- the same of the loop
gap : (g : _) (c : In_ok-pass_until g)
    → KeptOf c.args.level.now (g.O.Order.goes c.args.order.now (sporadic_tasks c.args.level.now.tasks.now))
    (c.loop-at.invariant.so_far.0
    ++ replicate ((window_at c.args.level.now.given.now c.loop-at.at).from - c.loop-at.ready.time) None)
    c.pass_until.new.ready
gap g c =
    let windows = c.args.level.now.windows in
    let inside = c.loop-at-test.true in
    let so_far = c.loop-at.invariant.so_far in
    let passed = c.in_ok-pass_until.ensures in
    over_gap c.args.level.now _ c.loop-at.at (window_at c.args.level.now.given.now c.loop-at.at).from so_far.0
    c.loop-at.ready c.pass_until.new.ready c.loop-at.invariant.over
    (omega (arith, windows.some c.loop-at.at inside, windows.in_slots c.loop-at.at inside)) (λ l. refl) so_far.1
    passed.rest passed.time passed.state

-- the span that is served joins the run that is followed
abbrev joins : (g : _) (c : After-serve-span g) → (run : List (Option ℕ)) × (length run ≡ c.serve-span.result.from)
    × g.F.Follow.follows c.pass_until.new.follower run
joins g c =
    let so_far = c.loop-at.invariant.so_far in
    let kept = gap g (goal.at.After-serve-span g c).In_ok-pass_until in (
      so_far.0 ++ replicate ((window_at c.args.level.now.given.now c.loop-at.at).from - c.loop-at.ready.time) None,
      kept.run_so_far.long ∙ sym c.in_ok-catch_up.ensures.time ∙ sym c.serve-span.ensures.from,
      c.in_ok-pass_until.ensures.followed so_far.0 so_far.1.run_so_far.long so_far.2,
    )

pub add-requires-clause-joins : goal.add-requires-clause-joins
add-requires-clause-joins g c = joins g (goal.at.add-requires-clause-joins g c).After-serve-span

-- what is kept of the run over the span that is served
kept_span : (g : _) (c : After-serve-span g)
    → KeptOf c.args.level.now (g.O.Order.goes c.args.order.now (sporadic_tasks c.args.level.now.tasks.now))
    ((joins g c).0 ++ entries_of c.serve-span.result) c.serve-span.new.self
kept_span g c =
    let level = c.args.level.now in
    let T = sporadic_tasks level.tasks.now in
    let before = g.O.Order.goes c.args.order.now T in
    let windows = level.given.now in
    let n = level.slots in
    let at = c.loop-at.at in
    let begun = c.pass_until.new.ready in
    let passed = c.in_ok-pass_until.ensures in
    let came = c.catch_up.new.self in
    let caught = c.in_ok-catch_up.ensures in
    let after = c.serve-span.new.self in
    let served = c.serve-span.ensures in
    let span = c.serve-span.result in
    let inside : at < length windows = c.loop-at-test.true in
    let until = (window_at windows at).until in
    let some : until ≤ n = level.windows.in_slots at inside in
    let later : begun.time < until
    = omega (arith, passed.time, c.loop-at.invariant.next inside, level.windows.some at inside) in
    let current : IsCurrent came = record {
      is_state = caught.state;
      come = subst (HaveCome came) (sym caught.time) caught.come;
      to_come = subst (AreToCome came) (sym caught.time) caught.to_come;
      none_over = caught.none_over;
      early = omega (arith, caught.time, later, some, c.type_inv.level);
    } in
    let serves : Serves before level.jobs.now came span after = record {
      from = served.from;
      some = served.some;
      served = served.served;
      steady = served.steady;
      enough = where_some span.job (λ p. span.until - came.time ≤ get_or came.left.items p 0) served.enough;
      left = served.left;
      is_state = served.state;
      time = served.time;
      releases = ap (λ v. v.items) served.releases;
      released = served.released;
      ends = ap (λ v. v.items) served.ends;
    } in
    let given : AreGiven (slots_of windows n) begun.time span.until
    = λ x a b. slot_at windows n x (omega (arith, served.in_time, some))
    ∙ all_given windows at x inside (omega (arith, passed.time)) (omega (arith, served.in_time)) in
    let passing = (joins g c).0 in
    let kept = gap g (goal.at.After-serve-span g c).In_ok-pass_until in
    kept_more (level_of level.keep) before T level.jobs.now windows n passing (passing ++ entries_of span) begun came
    after span kept current caught.time (ap (λ v. v.items) caught.releases) (ap (λ v. v.items) caught.left)
    (ap (λ v. v.items) caught.ends) given serves refl

pub loop-at-preserved : goal.loop-at-preserved
loop-at-preserved g c =
    let here = goal.at.loop-at-preserved g c in
    let inside = c.loop-at-test.true in
    let passed = c.in_ok-pass_until.ensures in
    let served = c.serve-span.ensures in
    let after = c.serve-span.new.self in
    let until : (window_at c.args.level.now.given.now c.loop-at.at).until ≤ c.args.level.now.slots
    = c.args.level.now.windows.in_slots c.loop-at.at inside in
    let to = joins g here.After-serve-span in
    let run = to.0 ++ entries_of c.serve-span.result in
    let kept = kept_span g here.After-serve-span in
    let follows : g.F.Follow.follows c.add.new.self run = c.in_ok-add.ensures.followed to.0 to.1 to.2 in
    let next
    = window_passed c.args.level.now.given.now c.args.level.now.slots c.loop-at.at c.next_after-at.result
    c.loop-at.ready.time after.time c.args.level.now.windows inside c.loop-at.invariant.over
    (omega (arith, passed.time, c.in_ok-catch_up.ensures.time, served.some, served.time))
    (omega (arith, served.in_time, served.time))
    (λ e. c.next_after-at.ensures.over (omega (arith, e, c.time.ensures)))
    (λ ne. c.next_after-at.ensures.stays (λ e. ne (omega (arith, e, c.time.ensures)))) in
    record {
      so_far = (run, kept, follows);
      followed = (run, kept.run_so_far.long, follows);
      is_state = kept.is_state;
      come = kept.come;
      long = kept.long;
      takes = λ j l. c.in_ok-add.ensures.taken j (passed.takes j (c.loop-at.invariant.takes j l));
      same = c.in_ok-add.ensures.same ∙ passed.same ∙ c.loop-at.invariant.same;
      keys =
          keys_kept (g.O.Order.goes c.args.order.now (sporadic_tasks c.args.level.now.tasks.now))
          c.args.level.now.jobs.now c.catch_up.new.self after served.keys (keys_come g here.In_ok-catch_up);
      in_list = next.0;
      over = next.1;
      next = next.2;
      in_slots = omega (arith, served.in_time, served.time, until);
    }

-- a run of which all slots are kept is the first run of the level
is_first : (level : ReleasedLevel) (before : Job → Job → Bool) (run : List (Option ℕ)) (after : Ready)
    → KeptOf level before run after → after.time ≡ level.slots → FirstRunOf level before run
is_first level before run after kept end =
    subst (λ (m : ℕ). FirstRunTo (level_of level.keep) before (sporadic_tasks level.tasks.now) level.jobs.now
    (slots_of level.given.now level.slots) m run) (end ∙ sym (slots-long level.given.now level.slots)) kept.run_so_far

pub returns-clause-followed : goal.returns-clause-followed
returns-clause-followed g c =
    let level = c.args.level.now in
    let i = c.loop-at.invariant in
    let passed = c.in_ok-pass_until-2.ensures in
    let run = i.so_far.0 ++ replicate (level.slots - c.loop-at.ready.time) None in (
      run,
      is_first level _ run c.pass_until-2.new.ready
          (over_gap level _ c.loop-at.at level.slots i.so_far.0 c.loop-at.ready c.pass_until-2.new.ready i.over
          (omega arith) (λ l. absurd (omega (arith, l, c.loop-at-test.false))) i.so_far.1 passed.rest passed.time
          passed.state) (omega (arith, i.in_slots, passed.time)),
      passed.followed i.so_far.0 i.so_far.1.run_so_far.long i.so_far.2,
    )
