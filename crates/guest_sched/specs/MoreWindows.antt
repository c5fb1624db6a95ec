-- Windows as they are made, one after the other.
use Rattle.std.specs.Prelude.{◌≡◌, ℕ, ◌<◌, ◌≤◌, true, List}
use Rattle.guest_sched.specs.Spans.{Window, is_given, AreWindows}

-- windows with the slots from `from` on below `until` too
pub record AddsWindow (old : List Window) (from until : ℕ) (new : List Window) : Type 0 where
  pub windows : AreWindows new until
  pub before : (x : ℕ) → x < from → is_given new x ≡ is_given old x
  pub after : (x : ℕ) → from ≤ x → x < until → is_given new x ≡ true
