use Rattle.std.proofs.Common.{◌≡◌, ℕ, ◌<◌, ◌≤◌, List, length, inl, inr, arith, ◌∙◌}
use Rattle.std.proofs.lemmas.Bool.{cases_lt}
use Rattle.slot_model.specs.Task.{SporadicTask, AreConstrained, sporadic_tasks}
use Rattle.slot_model.specs.declared.sched.Sched.{Sched}
use Rattle.slot_model.proofs.Constrained.{are_constrained}
use Rattle.guest_sched.specs.Spans.{Window, AreWindows, slots_of, window_at}
use Rattle.guest_sched.proofs.Given.{AreOver}
use Rattle.server_sched.specs.declared.level.Level.{Level}
use Rattle.server_sched.specs.inner.Serving.{AreServerTasks, IsUnderway}
use Rattle.server_sched.proofs.Underway.{sound, may_turn, gap_passed}
use Rattle.server_sched.proofs.level.Level.pass_to.Goals as goal

-- how far the time may go by
until_in : (windows : List Window) (n at until : ℕ) → AreWindows windows n
    → (at < length windows → until ≡ (window_at windows at).from) → (length windows ≤ at → until ≡ n)
    → (until ≤ n) × (at < length windows → until ≤ (window_at windows at).from)
until_in windows n at until h begin end = (
  elim (cases_lt at (length windows))
      [ inl l ↦ omega (arith, begin l, h.some at l, h.in_slots at l) | inr m ↦ omega (arith, end m) ],
  λ l. omega (arith, begin l),
)

passed : (sched : Sched) (T : List SporadicTask) → AreConstrained T → AreServerTasks T
    → (windows : List Window) (n at stop until old : ℕ) (level : Level) → IsUnderway sched T (slots_of windows n) level
    → level.slots ≡ n → AreWindows windows n → AreOver windows at old → old ≤ level.time
    → (at < length windows → stop ≡ (window_at windows at).from) → (length windows ≤ at → stop ≡ n) → level.time ≤ until
    → until ≤ stop → until ≤ level.come.next
    → IsUnderway sched T (slots_of windows n) (record level { time = until })
passed sched T fits are windows n at stop until old level h same fit over later begin end a b c =
    let ends = until_in windows n at stop fit begin end in
    gap_passed sched T fits are windows n at until level h same fit (λ k m. omega (arith, over k m, later))
    (λ m. omega (arith, ends.1 m, b)) a (omega (arith, ends.0, b)) c

pub turn-requires : goal.turn-requires
turn-requires c =
    let may = may_turn _ c.args.tasks.now _ _ _ _ _ c.loop-self.invariant c.requires.few in
    record {
      tasks = c.requires.tasks;
      few_tasks = c.requires.few_tasks;
      one_each = may.2;
      in_time =
          omega (
            arith,
            (until_in c.args.given.now c.args.self.now.slots c.args.at c.begin_of-until.result c.requires.windows
                c.begin_of-until.ensures.begin c.begin_of-until.ensures.end).0,
            c.loop-self-test.true,
            c.requires.short,
          );
      released = may.0;
      missed = may.1;
    }

-- the level as the next jobs come
come_to : (c : goal.After-turn)
    → IsUnderway c.args.sched (sporadic_tasks c.args.tasks.now) (slots_of c.args.given.now c.args.self.now.slots)
    (record c.loop-self.self { time = c.loop-self.self.come.next })
come_to c =
    let i = c.loop-self.invariant in
    passed c.args.sched (sporadic_tasks c.args.tasks.now) (are_constrained c.args.tasks.now) c.requires.tasks
    c.args.given.now c.args.self.now.slots c.args.at c.begin_of-until.result c.loop-self.self.come.next
    c.args.self.now.time c.loop-self.self i.state i.slots c.requires.windows c.requires.over i.later
    c.begin_of-until.ensures.begin c.begin_of-until.ensures.end
    (sound c.args.sched (sporadic_tasks c.args.tasks.now) (slots_of c.args.given.now c.args.self.now.slots)
    c.loop-self.self i.state).in_time (omega (arith, c.loop-self-test.true)) (omega arith)

in_slots : (c : goal.After-turn) → c.loop-self.self.come.next < c.loop-self.self.slots
in_slots c =
    let ends
    = until_in c.args.given.now c.args.self.now.slots c.args.at c.begin_of-until.result c.requires.windows
    c.begin_of-until.ensures.begin c.begin_of-until.ensures.end in
    omega (arith, ends.0, c.loop-self-test.true, c.loop-self.invariant.slots)

pub loop-self-preserved : goal.loop-self-preserved
loop-self-preserved c =
    let i = c.loop-self.invariant in
    let in_order
    = (sound c.args.sched (sporadic_tasks c.args.tasks.now) (slots_of c.args.given.now c.args.self.now.slots)
    c.loop-self.self i.state).in_time in
    record {
      state = c.turn.ensures.run (slots_of c.args.given.now c.args.self.now.slots) (in_slots c) (come_to c);
      slots = c.turn.ensures.slots ∙ i.slots;
      later = omega (arith, c.turn.ensures.time, i.later, in_order);
      in_time = omega (arith, c.turn.ensures.time, c.loop-self-test.true);
    }

pub loop-self-smaller : goal.loop-self-smaller
loop-self-smaller c =
    omega (
      arith,
      c.turn.ensures.next (slots_of c.args.given.now c.args.self.now.slots) (in_slots c) (come_to c),
      c.turn.ensures.time,
      c.loop-self-test.true,
    )

pub returns-clause-state : goal.returns-clause-state
returns-clause-state c =
    let i = c.loop-self.invariant in
    passed c.args.sched (sporadic_tasks c.args.tasks.now) (are_constrained c.args.tasks.now) c.requires.tasks
    c.args.given.now c.args.self.now.slots c.args.at c.begin_of-until.result c.begin_of-until.result
    c.args.self.now.time c.loop-self.self i.state i.slots c.requires.windows c.requires.over i.later
    c.begin_of-until.ensures.begin c.begin_of-until.ensures.end
    i.in_time (omega arith) (omega (arith, c.loop-self-test.false))
