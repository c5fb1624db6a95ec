-- Where the last window ends.
use Rattle.std.specs.Prelude.{◌≡◌, ℕ, ◌+◌, List, length}
use Rattle.guest_sched.specs.Spans.{Window, window_at}

-- the last window ends here
abbrev pub EndsAt : List Window → ℕ → Type 0
EndsAt windows x = (i : ℕ) × (i + 1 ≡ length windows) × ((window_at windows i).until ≡ x)
