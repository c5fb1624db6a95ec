-- The run of constant bandwidth servers (Abeni and Buttazzo, RTSS 1998) on one full core, slot by
-- slot, under earliest deadline first. Budgets are hard: a server that has used its budget up has
-- nothing more before its deadline, as Linux's SCHED_DEADLINE throttles a thread.
use Rattle.std.specs.Prelude.{◌≡◌, ℕ, zero, suc, ◌+◌, ◌-◌, ◌*◌, ◌<◌, ◌≤◌, ◌==◌, Bool, true, false, not, ◌&&◌, ◌||◌, nat_lt, nat_le, if◌then◌else◌, List, length, Option, Some, None}
use Rattle.slot_model.specs.Run.{held, holds}

-- Servers at some of the places below `count`: the budget and the period of each, and the slots in
-- which it is awake. It may sleep and wake as it likes.
pub record Servers : Type 0 where
  pub count : ℕ
  pub is_server : ℕ → Bool
  pub budget : ℕ → ℕ
  pub period : ℕ → ℕ
  pub awake : ℕ → ℕ → Bool

-- v is the place of a server
pub record IsServer (s : Servers) (v : ℕ) : Type 0 where
  pub below : v < s.count
  pub is_one : s.is_server v ≡ true

-- the account of a server: how many slots of its budget are left, and the moment of its deadline
pub record Account : Type 0 where
  pub left : ℕ
  pub due : ℕ

-- a new account: the whole budget, due a period from moment x
abbrev pub renewed : ℕ → ℕ → ℕ → Account
renewed budget period x = record { left = budget; due = x + period }

-- whether a server that wakes at moment x is renewed: its deadline is not ahead, or what is left is
-- more than its share, budget / period, of the slots up to its deadline
abbrev pub is_renewed : ℕ → ℕ → ℕ → Account → Bool
is_renewed budget period x a =
    nat_le a.due x || nat_lt ((a.due - x) * budget) (a.left * period)

-- whether its budget comes back at moment x, awake or asleep: it is used up, and the deadline is
-- not ahead
abbrev pub comes_back : ℕ → Account → Bool
comes_back x a = (a.left == 0) && nat_le a.due x

-- the deadline that it comes back with: a period behind the last one, or a period from moment x
-- where that is past too
abbrev pub next_due : ℕ → ℕ → ℕ → ℕ
next_due period x due = if nat_lt (due + period) x then x + period else due + period

abbrev pub brought_back : ℕ → ℕ → ℕ → Account → Account
brought_back budget period x a = record { left = budget; due = next_due period x a.due }

-- what moment x makes of an account, where the server wakes then or does not
abbrev pub at_moment : ℕ → ℕ → ℕ → Bool → Account → Account
at_moment budget period x wakes a =
    if wakes && is_renewed budget period x a
    then renewed budget period x
    else (if comes_back x a then brought_back budget period x a else a)

-- what a slot makes of it, where the server has the core there or does not
abbrev pub after_slot : Bool → Account → Account
after_slot has_core a = if has_core then record { left = a.left - 1; due = a.due } else a

-- server v wakes at moment x: it is awake in slot x, and was not in the slot before, or there is
-- none before
abbrev pub was_awake : Servers → ℕ → ℕ → Bool
was_awake s v zero = false
was_awake s v (suc x) = s.awake v x

abbrev pub wakes : Servers → ℕ → ℕ → Bool
wakes s v x = s.awake v x && not (was_awake s v x)

-- before moment 0 nothing is left, and the deadline is not ahead
abbrev pub no_account : Account
no_account = record { left = 0; due = 0 }

abbrev pub account_from : Servers → ℕ → ℕ → Account → Account
account_from s v x a = at_moment (s.budget v) (s.period v) x (wakes s v x) a

-- the account of server v in slot x, where `run` names for each slot a server or none
unfoldable pub account : Servers → List (Option ℕ) → ℕ → ℕ → Account
account s run v zero = account_from s v zero no_account
account s run v (suc x) =
    account_from s v (suc x) (after_slot (holds (held run x) v) (account s run v x))

-- a server is eligible in slot x while it is awake and has something left
abbrev pub is_eligible : Servers → List (Option ℕ) → ℕ → ℕ → Bool
is_eligible s run v x =
    ((nat_lt v s.count && s.is_server v) && s.awake v x) && nat_lt 0 (account s run v x).left

-- what slot x may hold: an eligible server with the earliest deadline, and none exactly where none
-- is eligible. Which of several with one deadline is open.
pub record CbsEntry (s : Servers) (run : List (Option ℕ)) (x : ℕ) (entry : Option ℕ) : Type 0 where
  pub idle : entry ≡ None → (v : ℕ) → is_eligible s run v x ≡ false
  pub named : (v : ℕ) → entry ≡ Some v → is_eligible s run v x ≡ true
  pub first : (u v : ℕ) → entry ≡ Some v → is_eligible s run u x ≡ true →
      (account s run v x).due ≤ (account s run u x).due

-- a run over n slots
pub record CbsRun (s : Servers) (n : ℕ) (run : List (Option ℕ)) : Type 0 where
  pub long : length run ≡ n
  pub each : (x : ℕ) → x < n → CbsEntry s run x (held run x)

-- server u goes before v in slot x by the order of the file: its deadline is earlier, or the same
-- and it is the first of the two
abbrev pub goes_before : Servers → List (Option ℕ) → ℕ → ℕ → ℕ → Bool
goes_before s run x u v =
    nat_lt (account s run u x).due (account s run v x).due
    || (((account s run u x).due == (account s run v x).due) && nat_lt u v)

-- what slot x holds by that order
pub record FileEntry (s : Servers) (run : List (Option ℕ)) (x : ℕ) (entry : Option ℕ) : Type 0
  where
    pub idle : entry ≡ None → (v : ℕ) → is_eligible s run v x ≡ false
    pub named : (v : ℕ) → entry ≡ Some v → is_eligible s run v x ≡ true
    pub first : (u v : ℕ) → entry ≡ Some v → is_eligible s run u x ≡ true →
        goes_before s run x u v ≡ false

-- the run over n slots by the order of the file
pub record FileRun (s : Servers) (n : ℕ) (run : List (Option ℕ)) : Type 0 where
  pub long : length run ≡ n
  pub each : (x : ℕ) → x < n → FileEntry s run x (held run x)

-- there is one over each number of slots, and only one
abbrev pub HasFileRun : Type 0
HasFileRun = (s : Servers) (n : ℕ) → (run : List (Option ℕ)) × FileRun s n run

abbrev pub FileRunIsOnly : Type 0
FileRunIsOnly =
    (s : Servers) (n : ℕ) (run other : List (Option ℕ)) → FileRun s n run → FileRun s n other →
    run ≡ other

-- it is one of those in which ties are open, so there is one of these
abbrev pub FileOrderIsOpen : Type 0
FileOrderIsOpen =
    (s : Servers) (n : ℕ) (run : List (Option ℕ)) → FileRun s n run → CbsRun s n run

abbrev pub HasRun : Type 0
HasRun = (s : Servers) (n : ℕ) → (run : List (Option ℕ)) × CbsRun s n run
