use Rattle.std.proofs.Common.{◌≡◌, ℕ, ◌<◌, ◌≤◌, List, [], ◌∷◌, ◌++◌, arith, subst, sym}
use Rattle.guest_sched.specs.Spans.{AreWindows, Window}
use Rattle.guest_sched.proofs.MoreWindows.{one_window}
use Rattle.schedule_tests.proofs.helpers.windows_of.Goals as goal

later : (windows : List Window) (n m : ℕ) → AreWindows windows n → n ≤ m → AreWindows windows m
later windows n m h l =
    record { some = h.some; in_slots = λ i li. omega (arith, h.in_slots i li, l); in_turn = h.in_turn }

pushed : (windows new : List Window) (window : Window) (n : ℕ) → new ≡ windows ++ window ∷ [] → AreWindows windows n
    → n ≤ window.from → window.from < window.until → AreWindows new window.until
pushed windows new window n is are from some =
    subst (λ (ws : List Window). AreWindows ws window.until) (sym is)
    (one_window windows window.from window.until (later windows n window.from are from) some).windows

pub loop-row-preserved : goal.loop-row-preserved
loop-row-preserved g c =
    record {
      windows = pushed _ _ _ _ c.in_ok-push.ensures.items c.loop-row.invariant.windows (omega arith) (omega arith);
      within = omega arith;
    }

pub returns : goal.returns
returns g c = later _ _ _ c.loop-row.invariant.windows c.loop-row.invariant.within
