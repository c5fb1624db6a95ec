-- Servers that may run past their budgets before they are stopped, as at a tick: what a server had
-- too much is taken off what it is granted next.
use Rattle.std.specs.Prelude.{◌≡◌, ℕ, zero, suc, ◌+◌, ◌-◌, ◌*◌, ◌/◌, ◌<◌, ◌≤◌, Bool, ◌&&◌, ◌||◌, true, false, nat_lt, nat_le, if◌then◌else◌, List, length, Option, Some, None}
use Rattle.slot_model.specs.Slots.{sum_below}
use Rattle.slot_model.specs.Run.{held, holds}
use Rattle.cbs_servers.specs.Cbs.{Servers, IsServer, Account, wakes, account, CbsRun}
use Rattle.cbs_servers.specs.Giving.{AreServers, SharesFit}

-- the grant of a server: the moment of its deadline, how many slots it was granted, and how many it
-- used since then, which may be more
pub record Grant : Type 0 where
  pub due : ℕ
  pub granted : ℕ
  pub used : ℕ

-- nothing, before moment 0; and a new grant at moment x, of the whole budget
abbrev pub no_grant : Grant
no_grant = record { due = 0; granted = 0; used = 0 }

abbrev pub whole_grant : ℕ → ℕ → ℕ → Grant
whole_grant budget period x = record { due = x + period; granted = budget; used = 0 }

-- whether a server is granted more at moment x: all is used, and the deadline is not ahead
abbrev pub is_used_up : ℕ → Grant → Bool
is_used_up x g = nat_le g.granted g.used && nat_le g.due x

-- it is granted its budget once for what it had beyond its grant as often as that has a budget, and
-- once more, each time for one period: so something is left
abbrev pub times_granted : ℕ → Grant → ℕ
times_granted budget g = suc ((g.used - g.granted) / budget)

abbrev pub granted_more : ℕ → ℕ → Grant → Grant
granted_more budget period g = record {
  due = g.due + times_granted budget g * period;
  granted = g.granted + times_granted budget g * budget - g.used;
  used = 0;
}

-- a deadline that is past even so is given up for a new grant
abbrev pub caught_up : ℕ → ℕ → ℕ → Grant → Grant
caught_up budget period x g = if nat_lt g.due x then whole_grant budget period x else g

abbrev pub at_deadline : ℕ → ℕ → ℕ → Grant → Grant
at_deadline budget period x g =
    if is_used_up x g then caught_up budget period x (granted_more budget period g) else g

-- and at a wake-up a grant is given up as an account is
abbrev pub is_given_up : ℕ → ℕ → ℕ → Grant → Bool
is_given_up budget period x g =
    nat_le g.due x || nat_lt ((g.due - x) * budget) ((g.granted - g.used) * period)

abbrev pub at_wake : ℕ → ℕ → ℕ → Bool → Grant → Grant
at_wake budget period x wakes g =
    if wakes && is_given_up budget period x g then whole_grant budget period x else g

-- what moment x makes of a grant, and what a slot makes of it
abbrev pub grant_at : ℕ → ℕ → ℕ → Bool → Grant → Grant
grant_at budget period x wakes g =
    at_wake budget period x wakes (at_deadline budget period x g)

abbrev pub grant_after : Bool → Grant → Grant
grant_after has_core g =
    record { due = g.due; granted = g.granted; used = g.used + (if has_core then 1 else 0) }

-- the grant in slot x of a server that wakes at some moments and has its core in some slots
unfoldable pub grant_of : ℕ → ℕ → (ℕ → Bool) → (ℕ → Bool) → ℕ → Grant
grant_of budget period wakes has_core zero = grant_at budget period 0 (wakes 0) no_grant
grant_of budget period wakes has_core (suc x) =
    grant_at budget period (suc x) (wakes (suc x))
    (grant_after (has_core x) (grant_of budget period wakes has_core x))

-- that of server v
abbrev pub grant : Servers → List (Option ℕ) → ℕ → ℕ → Grant
grant s run v x =
    grant_of (s.budget v) (s.period v) (wakes s v) (λ y. holds (held run y) v) x

-- a server is awake; it is so with something left; and it is so and may be let on past that, by
-- over v slots at most
abbrev pub is_awake : Servers → ℕ → ℕ → Bool
is_awake s v x = (nat_lt v s.count && s.is_server v) && s.awake v x

abbrev pub has_left : Servers → List (Option ℕ) → ℕ → ℕ → Bool
has_left s run v x = is_awake s v x && nat_lt (grant s run v x).used (grant s run v x).granted

abbrev pub may_run : Servers → (ℕ → ℕ) → List (Option ℕ) → ℕ → ℕ → Bool
may_run s over run v x =
    is_awake s v x && nat_lt (grant s run v x).used ((grant s run v x).granted + over v)

-- what slot x may hold: a server that has something left or is let on, where none that has
-- something left is due sooner; and none only where none has something left
pub record OverrunEntry (s : Servers) (over : ℕ → ℕ) (run : List (Option ℕ)) (x : ℕ)
    (entry : Option ℕ) : Type 0 where
  pub idle : entry ≡ None → (v : ℕ) → has_left s run v x ≡ false
  pub named : (v : ℕ) → entry ≡ Some v → may_run s over run v x ≡ true
  pub first : (u v : ℕ) → entry ≡ Some v → has_left s run u x ≡ true →
      (grant s run v x).due ≤ (grant s run u x).due

-- a run over n slots
pub record OverrunRun (s : Servers) (over : ℕ → ℕ) (n : ℕ) (run : List (Option ℕ)) : Type 0 where
  pub long : length run ≡ n
  pub each : (x : ℕ) → x < n → OverrunEntry s over run x (held run x)

-- in each slot in which a server is awake and has something left, the slots up to its deadline are
-- enough for that, but for what the others may run over, all together
abbrev pub LateByOthers : Type 0
LateByOthers =
    (s : Servers) (over : ℕ → ℕ) (n : ℕ) (run : List (Option ℕ)) (v x : ℕ) → AreServers s →
    SharesFit s → OverrunRun s over n run → x < n → has_left s run v x ≡ true →
    x + ((grant s run v x).granted - (grant s run v x).used) + over v
    ≤ (grant s run v x).due + sum_below over s.count

-- where no server runs over, these are the runs of `Cbs`, and the grants tell the accounts
abbrev pub no_overrun : ℕ → ℕ
no_overrun v = 0

abbrev pub NoneOverIsCbs : Type 0
NoneOverIsCbs =
    (s : Servers) (n : ℕ) (run : List (Option ℕ)) → AreServers s →
    (OverrunRun s no_overrun n run → CbsRun s n run)
    × (CbsRun s n run → OverrunRun s no_overrun n run)

pub record TellsAccount (a : Account) (g : Grant) : Type 0 where
  pub due_is : g.due ≡ a.due
  pub left_is : g.granted ≡ a.left + g.used

abbrev pub GrantsAreAccounts : Type 0
GrantsAreAccounts =
    (s : Servers) (n : ℕ) (run : List (Option ℕ)) (v x : ℕ) → AreServers s → CbsRun s n run →
    IsServer s v → x ≤ n → TellsAccount (account s run v x) (grant s run v x)
