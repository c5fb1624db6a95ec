-- The events that are told next, one of each core.
use Rattle.std.specs.Prelude.{◌≡◌, ℕ, ◌<◌, ◌≤◌, List, slice_index, slice_get, Option, Some, None}
use Rattle.trace_file.specs.declared.event.Event.{Event}
use Rattle.rtds_sim.specs.declared.switches.TheConstants.{NEVER}

-- the moment of an event, if there is one
abbrev pub moment_of : Option Event → ℕ
moment_of None = NEVER
moment_of (Some event) = event.at

-- of the event that is told next, where some of a list are told
abbrev pub next_moment : List Event → ℕ → ℕ
next_moment events told = moment_of (slice_get events told)

-- none of n cores has anything more to tell
abbrev pub AreNever : List ℕ → ℕ → Type 0
AreNever moments n = (c : ℕ) → c < n → slice_index moments c ≡ NEVER

-- of n cores, c is the first one of those whose moment is the least
pub record IsSoonest (moments : List ℕ) (n c : ℕ) : Type 0 where
  pub is_core : c < n
  pub some : slice_index moments c < NEVER
  pub before : (d : ℕ) → d < c → slice_index moments c < slice_index moments d
  pub behind : (d : ℕ) → c ≤ d → d < n → slice_index moments c ≤ slice_index moments d
