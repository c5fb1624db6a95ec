-- What a run of constant bandwidth servers gives each of them while it is awake, whatever the
-- others do.
use Rattle.std.specs.Prelude.{◌≡◌, ℕ, suc, ◌+◌, ◌-◌, ◌*◌, ◌<◌, ◌≤◌, true, ◌&&◌, nat_le, List, Option}
use Rattle.slot_model.specs.Slots.{sum_below, count_below}
use Rattle.slot_model.specs.Bound.{sbf}
use Rattle.slot_model.specs.Run.{held, holds}
use Rattle.cbs_servers.specs.Cbs.{Servers, IsServer, renewed, after_slot, account, is_eligible, CbsRun}

-- each server has a budget of one slot or more, up to its period
pub record AreServers (s : Servers) : Type 0 where
  pub some : (v : ℕ) → IsServer s v → 1 ≤ s.budget v
  pub within : (v : ℕ) → IsServer s v → s.budget v ≤ s.period v

-- the shares, budget / period, of all servers come to one core at the most: of so many slots each
-- has a whole share, and the shares together are no more than the slots
pub record SharesFit (s : Servers) : Type 0 where
  pub slots : ℕ
  pub share : ℕ → ℕ
  pub some : 1 ≤ slots
  pub shares : (v : ℕ) → IsServer s v → share v * s.period v ≡ slots * s.budget v
  pub fit : sum_below share s.count ≤ slots

-- something of each server in each run of servers whose shares fit, however ties are broken
abbrev pub InEachRun : (Servers → ℕ → List (Option ℕ) → ℕ → Type 0) → Type 0
InEachRun Says =
    (s : Servers) (n : ℕ) (run : List (Option ℕ)) (v : ℕ) → AreServers s → SharesFit s →
    CbsRun s n run → IsServer s v → Says s n run v

-- in each slot in which a server is eligible, the slots up to its deadline are enough for what is
-- left
abbrev pub NeverLate : Type 0
NeverLate = InEachRun (λ s n run v.
    (x : ℕ) → x < n → is_eligible s run v x ≡ true →
    x + (account s run v x).left ≤ (account s run v x).due)

-- where its deadline comes at the end of a slot in which it is awake, nothing is left then
abbrev pub NeverShort : Type 0
NeverShort = InEachRun (λ s n run v.
    (x : ℕ) → x < n → s.awake v x ≡ true → (account s run v x).due ≡ suc x →
    (after_slot (holds (held run x) v) (account s run v x)).left ≡ 0)

-- in how many slots from a on and before b server v has the core
abbrev pub slots_had : List (Option ℕ) → ℕ → ℕ → ℕ → ℕ
slots_had run v a b = count_below (λ x. nat_le a x && holds (held run x) v) b

-- it is awake in each of them
abbrev pub AwakeFrom : Servers → ℕ → ℕ → ℕ → Type 0
AwakeFrom s v a b = (x : ℕ) → a ≤ x → x < b → s.awake v x ≡ true

-- a server that is awake from moment a on up to the deadline that it has there has the core in just
-- as many slots as are left of its budget
abbrev pub GivesWhatIsLeft : Type 0
GivesWhatIsLeft = InEachRun (λ s n run v.
    (a : ℕ) → a < n → s.awake v a ≡ true → (account s run v a).due ≤ n →
    AwakeFrom s v a (account s run v a).due →
    slots_had run v a (account s run v a).due ≡ (account s run v a).left)

-- one that is awake in each slot of a window has no fewer of them than a periodic resource with its
-- budget and period gives in any window as long
abbrev pub GivesBusy : Type 0
GivesBusy = InEachRun (λ s n run v.
    (a b : ℕ) → a ≤ b → b ≤ n → AwakeFrom s v a b →
    sbf (s.period v) (s.budget v) (b - a) ≤ slots_had run v a b)

-- and one with a new account at the begin of the window, as after a long sleep, no fewer than that
-- resource gives in one that is longer by period - budget
abbrev pub GivesFresh : Type 0
GivesFresh = InEachRun (λ s n run v.
    (a b : ℕ) → a ≤ b → b ≤ n → AwakeFrom s v a b →
    account s run v a ≡ renewed (s.budget v) (s.period v) a →
    sbf (s.period v) (s.budget v) ((b - a) + (s.period v - s.budget v)) ≤ slots_had run v a b)
