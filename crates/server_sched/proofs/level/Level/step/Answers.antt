use Rattle.std.specs.Vec.{with_item}
use Rattle.std.proofs.Common.{◌≡◌, ℕ, ◌+◌, ◌-◌, ◌<◌, ◌≤◌, List, Some, None, length, set, refl, arith, ap, sym, subst, Vec, Global}
use Rattle.std.proofs.lemmas.List.{map-set, get_or_read}
use Rattle.guest_sched.specs.Spans.{Window, AreWindows}
use Rattle.guest_sched.specs.MoreWindows.{AddsWindow}
use Rattle.server_sched.specs.declared.level.Level.{Level}
use Rattle.server_sched.specs.declared.serving.Server.{Server}
use Rattle.server_sched.specs.inner.Serving.{server_at, no_server, IsChosen}
use Rattle.server_sched.proofs.Underway.{no_job, job_served}
use Rattle.server_sched.proofs.level.Level.step.Goals as goal
use Rattle.tree_spans.proofs.Lists.{share_read}

-- the server that goes first is one of them, and has a list of windows
best_here : (level : Level) (b : ℕ) → level.best ≡ Some b → IsChosen level.servers.items level.best
    → length level.shares.items ≡ length level.servers.items
    → IsChosen level.servers.items (Some b) × (b < length level.shares.items)
best_here level b is chosen one_each =
    let best = subst (IsChosen level.servers.items) is chosen in
    (best, omega (arith, best.0, one_each))

pub returns-in_ok-add_window-in-Some-clause-run : goal.returns-in_ok-add_window-in-Some-clause-run
returns-in_ok-add_window-in-Some-clause-run c = λ sched T slots fits are l given h.
    let level = c.args.self.now in
    let b = c.in-Some.best in
    let k = c.min-given.result in
    let (best, in_shares) = best_here level b c.in-Some.is c.requires.ready.chosen c.requires.ready.one_each in
    let own = share_read level.shares.items b c.index_mut.result.now in_shares c.index_mut.ensures.value in
    let window = c.add_window.new.windows in
    let read : c.index_mut-in-Some.result.now ≡ server_at level.servers.items b
    = get_or_read level.servers.items b c.index_mut-in-Some.result.now best.0 c.index_mut-in-Some.ensures.value
    no_server in
    let left : k ≤ (server_at level.servers.items b).left
    = omega (
      arith,
      c.min-given.ensures,
      ap (λ (s : Server). s.left)
          (get_or_read level.servers.items b c.index.result.now best.0 c.index.ensures no_server),
    ) in
    let until : level.time + k ≤ c.min-until.result
    = omega (arith, c.min-given.ensures, c.min-until.ensures, c.requires.later, c.requires.ready.before_next) in
    job_served sched T fits are slots level
    (record level {
      time = level.time + k;
      servers =
          with_item level.servers b
          (record c.index_mut-in-Some.result.now { left = c.index_mut-in-Some.result.now.left - k });
      best = c.first_after-self.result;
      shares = with_item level.shares b window;
    })
    h k b c.requires.ready.before_next (omega (arith, until, c.min-until.ensures)) (omega (arith, c.requires.later, l))
    (omega (arith, until, c.min-until.ensures, l))
    (λ y m u. given y m (omega (arith, until, c.min-until.ensures)))
    best left window.items (subst (λ (w : List Window). AddsWindow w level.time (level.time + k) window.items) (sym own)
    c.in_ok-add_window-in-Some.ensures)
    refl refl refl
    (ap (λ (s : Server). set level.servers.items b (record s { left = s.left - k })) read)
    (map-set (λ (s : Vec Window Global). s.items) level.shares.items b window)
    refl
    (subst (λ (s : List Server). IsChosen s c.first_after-self.result) c.deref.ensures.value c.first_after-self.ensures)

pub returns-in-None-clause-run : goal.returns-in-None-clause-run
returns-in-None-clause-run c = λ sched T slots fits are l given h.
    let level = c.args.self.now in
    let k : ℕ = c.min-until.result - level.time in
    let end : c.min-until.result ≡ level.time + k
    = omega (arith, c.min-until.ensures, c.requires.later, c.requires.ready.before_next) in
    let best : IsChosen level.servers.items None
    = subst (IsChosen level.servers.items) c.in-None.is c.requires.ready.chosen in
    no_job sched T fits are slots level (record level { time = c.min-until.result }) h k c.requires.ready.before_next
    (omega (arith, end, c.min-until.ensures)) (omega (arith, c.requires.later, l))
    (omega (arith, end, c.min-until.ensures, l))
    (λ y m u. given y m (omega (arith, end, c.min-until.ensures)))
    best (ap (λ (z : ℕ). record level { time = z }) end)

pub add_window-requires-clause-windows : goal.add_window-requires-clause-windows
add_window-requires-clause-windows c =
    let level = c.args.self.now in
    let (best, in_shares)
    = best_here level c.in-Some.best c.in-Some.is c.requires.ready.chosen c.requires.ready.one_each in
    subst (λ (w : List Window). AreWindows w level.time)
    (share_read level.shares.items c.in-Some.best c.index_mut.result.now in_shares c.index_mut.ensures.value)
    (c.requires.ready.fit c.in-Some.best in_shares)
