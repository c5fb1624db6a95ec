use Rattle.std.proofs.Common.{◌≡◌, ℕ, ◌<◌, Bool, List, Option, arith, sym, subst}
use Rattle.std.proofs.lemmas.List.{with_items_is}
use Rattle.slot_model.specs.declared.sched.Sched.{Sched}
use Rattle.slot_model.specs.Task.{SporadicTask, sporadic_tasks}
use Rattle.slot_model.specs.Release.{synchronous}
use Rattle.slot_model.specs.Miss.{HoldsReleased}
use Rattle.slot_model.proofs.Constrained.{are_constrained}
use Rattle.server_sched.specs.declared.level.Level.{Level}
use Rattle.server_sched.specs.declared.serving.Server.{Server}
use Rattle.server_sched.specs.inner.Serving.{AtRest, AtMoment, IsChosen, Tallies, is_late, IsUnderway}
use Rattle.server_sched.proofs.Underway.{made_released, at_moment}
use Rattle.server_sched.proofs.Tallying.{next_late}
use Rattle.server_sched.proofs.level.Level.renew_now.Goals as goal

-- the moment's rest, where the next jobs come now
at_rest : (sched : Sched) (tasks : List SporadicTask) (slots : List Bool) (level : Level)
    → level.come.next ≡ level.time → (h : IsUnderway sched tasks slots level)
    → AtRest sched tasks level.slots h.run level.time level.come.released level.time level.servers.items
at_rest sched tasks slots level e h =
    subst (λ (z : ℕ). AtRest sched tasks level.slots h.run level.time level.come.released z level.servers.items) e
    h.rest

-- the same as the next jobs have come, by what is so of any run
renewed : (sched : Sched) (tasks : List SporadicTask) (slots : List Bool) (level : Level) (before after : List Server)
    (released next : ℕ) → before ≡ level.servers.items → level.come.next ≡ level.time → level.time < level.slots
    → (h : IsUnderway sched tasks slots level)
    → ((n : ℕ) (run : List (Option ℕ)) → level.time < n → HoldsReleased (synchronous tasks 0 n) run
    → AtMoment sched tasks (synchronous tasks 0 n) run level.time 0 level.come.released before
    → AtRest sched tasks n run level.time released next after × (level.time < next))
    → AtRest sched tasks level.slots h.run level.time released next after × (level.time < next)
renewed sched tasks slots level before after released next same e m h of_any =
    of_any level.slots h.run m
    (made_released sched tasks (synchronous tasks 0 level.slots) slots level.time h.run h.first)
    (subst (λ (s : List Server). AtMoment sched tasks (synchronous tasks 0 level.slots) h.run level.time 0
    level.come.released s) (sym same) (at_moment sched tasks level.slots h.run level.time level.come.released
    level.servers.items m (at_rest sched tasks slots level e h)))

pub returns-clause-run : goal.returns-clause-run
returns-clause-run c = λ slots m h.
    let e : c.args.self.now.come.next ≡ c.args.self.now.time = c.requires.now in
    let T = sporadic_tasks c.args.tasks.now in
    let level = c.args.self.now in
    let jobs = synchronous T 0 level.slots in
    let tallied : Tallies T jobs h.run (is_late T jobs h.run level.time 0) level.tally.missed level.tally.first
    = subst (λ (z : ℕ). Tallies T jobs h.run (is_late T jobs h.run z 0) level.tally.missed level.tally.first) e
    h.tallied in
    let closed
    = c.close.ensures c.args.sched level.slots h.run level.come.released (omega (arith, m))
    (subst (λ (s : List Server). IsChosen s level.best) (sym c.as_slice-late.ensures.value) h.chosen)
    (subst (λ (s : List Server). AtRest c.args.sched T level.slots h.run level.time level.come.released
    level.time s) (sym c.as_slice-late.ensures.value) (at_rest c.args.sched T slots level e h)) tallied in
    let now
    = renewed c.args.sched T slots level c.deref_mut.result.now c.renew-self.new.servers _ _ c.deref_mut.ensures.value e
    m h c.renew-self.ensures.rest in
    record {
      run = h.run;
      first = h.first;
      in_slots = h.in_slots;
      rest =
          subst (λ (s : List Server). AtRest c.args.sched T level.slots h.run level.time c.renew-self.result.released
          c.renew-self.result.next s) (sym (with_items_is level.servers c.renew-self.new.servers
          (omega (arith, now.0.one_each, h.rest.one_each, level.servers.ok.0)))) now.0;
      chosen =
          subst (λ (s : List Server). IsChosen s c.choose-self.result) c.deref.ensures.value c.choose-self.ensures;
      shares = h.shares;
      tallied =
          next_late c.args.sched T (are_constrained c.args.tasks.now) c.requires.tasks level.slots h.run level.time
          c.renew-self.result.released c.renew-self.result.next c.renew-self.new.servers now.1 now.0
          c.close.new.tally.missed c.close.new.tally.first closed;
    }

pub returns-clause-next : goal.returns-clause-next
returns-clause-next c = λ slots m h.
    (renewed c.args.sched (sporadic_tasks c.args.tasks.now) slots c.args.self.now c.deref_mut.result.now
    c.renew-self.new.servers _ _ c.deref_mut.ensures.value c.requires.now m h
    c.renew-self.ensures.rest).1
