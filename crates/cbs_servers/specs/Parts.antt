-- Grants in parts of slots: so many moments to a slot, as nanoseconds to a microsecond.
use Rattle.std.specs.Prelude.{◌≡◌, ℕ, ◌+◌, ◌*◌, ◌<◌, ◌≤◌, Bool, false, if◌then◌else◌}
use Rattle.cbs_servers.specs.Overrun.{Grant, grant_of}

-- a grant whose times are all so many times as long
abbrev pub grant_times : ℕ → Grant → Grant
grant_times parts g =
    record { due = parts * g.due; granted = parts * g.granted; used = parts * g.used }

-- two tests of slots, in which a server wakes and in which it has its core, and two of moments, so
-- many to a slot, that say the same up to slot n: it wakes only where slots begin, and has its core
-- for whole slots
pub record AreParts (parts n : ℕ) (wakes has_core part_wakes part_core : ℕ → Bool) : Type 0 where
  pub some : 1 ≤ parts
  pub core_so : (x c : ℕ) → x < n → c < parts → part_core (parts * x + c) ≡ has_core x
  pub wakes_so : (x : ℕ) → x ≤ n → part_wakes (parts * x) ≡ wakes x
  pub no_others : (x c : ℕ) → x < n → 1 ≤ c → c < parts → part_wakes (parts * x + c) ≡ false

-- where a slot begins the grant is that of slots, with all times so many times as long
abbrev pub GrantsAtSlots : Type 0
GrantsAtSlots =
    (parts n budget period : ℕ) (wakes has_core part_wakes part_core : ℕ → Bool) → 1 ≤ budget →
    1 ≤ period → AreParts parts n wakes has_core part_wakes part_core → (x : ℕ) → x ≤ n →
    grant_of (parts * budget) (parts * period) part_wakes part_core (parts * x)
    ≡ grant_times parts (grant_of budget period wakes has_core x)

-- and within a slot it is the same, but that time is used where the server has its core
abbrev pub used_more : ℕ → Grant → Grant
used_more c g = record { due = g.due; granted = g.granted; used = g.used + c }

abbrev pub GrantsInSlots : Type 0
GrantsInSlots =
    (parts n budget period : ℕ) (wakes has_core part_wakes part_core : ℕ → Bool) → 1 ≤ budget →
    1 ≤ period → AreParts parts n wakes has_core part_wakes part_core →
    (x c : ℕ) → x < n → c < parts →
    grant_of (parts * budget) (parts * period) part_wakes part_core (parts * x + c)
    ≡ used_more (if has_core x then c else 0)
    (grant_times parts (grant_of budget period wakes has_core x))
