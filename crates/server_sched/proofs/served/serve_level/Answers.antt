use Rattle.std.proofs.Common.{◌≡◌, ℕ, ◌<◌, length, subst, sym, ap, ◌∙◌, arith, inl, inr}
use Rattle.std.proofs.lemmas.Bool.{cases_eq}
use Rattle.slot_model.specs.Task.{sporadic_tasks}
use Rattle.guest_sched.specs.Spans.{slots_of, window_at}
use Rattle.server_sched.specs.inner.Serving.{IsUnderway, IsServed}
use Rattle.server_sched.proofs.Underway.{sound_in}
use Rattle.server_sched.proofs.served.serve_level.Goals as goal

pub loop-at-preserved : goal.loop-at-preserved
loop-at-preserved c =
    let T = sporadic_tasks c.args.tasks.now in
    let windows = c.args.given.now in
    let at = c.loop-at.at in
    let inside : at < length windows = c.loop-at-test.true in
    let i = c.loop-at.invariant in
    let served = c.in_ok-serve.ensures in
    let slots : c.pass_to.new.self.slots ≡ c.args.slots = c.pass_to.ensures.slots ∙ i.slots in
    record {
      state = subst (λ (n : ℕ). IsUnderway c.args.sched T (slots_of windows n) c.serve.new.self) slots served.state;
      slots = served.slots ∙ slots;
      over = λ k l. elim (cases_eq k at) [
        | inl e ↦ omega (arith, served.end, ap (λ (z : ℕ). (window_at windows z).until) e)
        | inr ne ↦ omega (arith, i.over k (omega arith), i.begun inside, c.requires.windows.some at inside, served.end)
      ];
      begun = λ l. omega (arith, served.end, c.requires.windows.in_turn at l);
    }

-- the level at its end
ended : (c : goal.After-kept_of_level)
    → IsUnderway c.args.sched (sporadic_tasks c.args.tasks.now) (slots_of c.args.given.now c.pass_to-2.new.self.slots)
    c.pass_to-2.new.self
ended c =
    subst (λ (n : ℕ). IsUnderway c.args.sched (sporadic_tasks c.args.tasks.now) (slots_of c.args.given.now n)
    c.pass_to-2.new.self) (sym c.pass_to-2.ensures.slots) c.pass_to-2.ensures.state

pub returns : goal.returns
returns c =
    let p = c.pass_to-2.ensures in
    subst (λ (n : ℕ). IsServed c.args.sched (sporadic_tasks c.args.tasks.now) c.args.given.now n c.kept_of_level.result)
    (p.slots ∙ c.loop-at.invariant.slots)
    (c.kept_of_level.ensures c.args.sched (ended c) (p.end (omega arith) ∙ sym p.slots)
    (omega (arith, p.next (omega arith), p.slots)))

pub kept_of_level-requires-clause-missed : goal.kept_of_level-requires-clause-missed
kept_of_level-requires-clause-missed c =
    let p = c.pass_to-2.ensures in
    omega (
      arith,
      (sound_in c.args.sched (sporadic_tasks c.args.tasks.now) (slots_of c.args.given.now c.loop-at.level.slots)
          c.args.slots c.pass_to-2.new.self p.state (p.slots ∙ c.loop-at.invariant.slots)).missed,
      c.requires.few,
    )
