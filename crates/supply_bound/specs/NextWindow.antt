-- The next window of a pattern of slots.
use Rattle.std.specs.Prelude.{◌≡◌, ℕ, ◌<◌, ◌≤◌, Bool, true, false, Option, Some, None}
use Rattle.supply_bound.specs.declared.next_window.Window.{Window}

-- the first stretch of slots of a pattern among the slots x with from <= x < below
pub record IsFirstStretch (pattern : ℕ → Bool) (from below : ℕ) (window : Window) : Type 0 where
  pub not_before : from ≤ window.from
  pub some : window.from < window.until
  pub in_slots : window.until ≤ below
  pub none_before : (x : ℕ) → from ≤ x → x < window.from → pattern x ≡ false
  pub every : (x : ℕ) → window.from ≤ x → x < window.until → pattern x ≡ true
  pub ends : window.until < below → pattern window.until ≡ false

-- and none exactly where the pattern has no slot there
abbrev pub IsNextWindow : (ℕ → Bool) → ℕ → ℕ → Option Window → Type 0
IsNextWindow pattern from below None = (x : ℕ) → from ≤ x → x < below → pattern x ≡ false
IsNextWindow pattern from below (Some window) = IsFirstStretch pattern from below window
