use Rattle.std.proofs.Common.{◌<◌, ◌≤◌, refl, arith, ◌∙◌, Vec, Global}
use Rattle.std.proofs.lemmas.List.{length-map}
use Rattle.slot_model.specs.Task.{sporadic_tasks}
use Rattle.slot_model.proofs.Constrained.{are_constrained}
use Rattle.guest_sched.specs.Spans.{Window, slots_of, window_at}
use Rattle.guest_sched.proofs.Given.{slot_at, all_given}
use Rattle.server_sched.specs.inner.Serving.{IsUnderway}
use Rattle.server_sched.proofs.Underway.{sound_in, may_turn}
use Rattle.server_sched.proofs.level.Level.serve.Goals as goal

pub turn-requires : goal.turn-requires
turn-requires c =
    let may = may_turn _ c.args.tasks.now _ _ _ _ _ c.loop-self.invariant c.requires.few in
    record {
      tasks = c.requires.tasks;
      few_tasks = c.requires.few_tasks;
      one_each = may.2;
      in_time =
          omega
          (arith, c.loop-self-test.true, c.requires.windows.in_slots c.args.at c.requires.inside, c.requires.short);
      released = may.0;
      missed = may.1;
    }

pub step-requires-clause-ready : goal.step-requires-clause-ready
step-requires-clause-ready c =
    let slots = slots_of c.args.given.now c.args.self.now.slots in
    let inside : c.loop-self.self.time < c.loop-self.self.slots
    = omega (
      arith,
      c.loop-self-test.true,
      c.requires.windows.in_slots c.args.at c.requires.inside,
      c.loop-self.invariant.slots,
    ) in
    let now = c.turn.ensures.run slots inside c.loop-self.invariant.state in
    let s
    = sound_in c.args.sched (sporadic_tasks c.args.tasks.now) slots c.turn.new.self.slots c.turn.new.self now refl in
    record {
      before_next = c.turn.ensures.next slots inside c.loop-self.invariant.state;
      chosen = now.chosen;
      one_each = omega (arith, s.shares, s.one_each);
      fit = λ k l. now.shares.fit k (omega (
        arith,
        l,
        now.shares.one_each,
        length-map c.turn.new.self.shares.items (λ (s : Vec Window Global). s.items),
      ));
    }

pub loop-self-preserved : goal.loop-self-preserved
loop-self-preserved c =
    let T = sporadic_tasks c.args.tasks.now in
    let n = c.args.self.now.slots in
    let windows = c.args.given.now in
    let i = c.loop-self.invariant in
    let stepped = c.in_ok-step.ensures in
    let within : (window_at windows c.args.at).until ≤ n = c.requires.windows.in_slots c.args.at c.requires.inside in
    let inside : c.loop-self.self.time < c.loop-self.self.slots
    = omega (arith, c.loop-self-test.true, within, i.slots) in
    let now : IsUnderway c.args.sched T (slots_of windows n) c.turn.new.self
    = c.turn.ensures.run (slots_of windows n) inside i.state in
    record {
      state =
          stepped.run c.args.sched T (slots_of windows n) (are_constrained c.args.tasks.now) c.requires.tasks
          (omega (arith, within, c.turn.ensures.slots, i.slots))
          (λ y a b. slot_at windows n y (omega (arith, b, within))
          ∙ all_given windows c.args.at y c.requires.inside
          (omega (arith, a, c.turn.ensures.time, i.later, c.requires.begun)) b) now;
      slots = stepped.slots ∙ (c.turn.ensures.slots ∙ i.slots);
      later = omega (arith, stepped.later, c.turn.ensures.time, i.later);
      in_time = stepped.in_time;
    }
