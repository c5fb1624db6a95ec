-- The VCPUs of a core: the one that goes first, and the first end of a period.
use Rattle.std.specs.Prelude.{◌≡◌, ℕ, ◌<◌, ◌≤◌, ◌⊎◌, true, false, List, length, Option, Some, None}
use Rattle.slot_model.specs.declared.task.TheConstants.{LIMIT}
use Rattle.rtds_queues.specs.declared.account.Account.{Account}
use Rattle.rtds_queues.specs.declared.account.TheConstants.{PAST_ALL}
use Rattle.rtds_queues.specs.Accounts.{account_at, end_at, account_eligible, is_ahead}

-- none is started
pub record NoneStarted (accounts : List Account) : Type 0 where
  pub started : (v : ℕ) → v < length accounts → (account_at accounts v).started ≡ false
  pub until : (v : ℕ) → v < length accounts → end_at accounts v ≡ PAST_ALL

-- VCPU v is a part of the system
pub record IsPlaceOf (accounts : List Account) (part v : ℕ) : Type 0 where
  pub is_vcpu : v < length accounts
  pub part_is : (account_at accounts v).part ≡ part

-- each has a period of some slots, and of no more than the limit
pub record HavePeriods (accounts : List Account) : Type 0 where
  pub some : (v : ℕ) → v < length accounts → 1 ≤ (account_at accounts v).period
  pub few : (v : ℕ) → v < length accounts → (account_at accounts v).period ≤ LIMIT

-- the eligible VCPU before which no other one goes, if there is one
pub record IsChoice (accounts : List Account) (o : Option ℕ) : Type 0 where
  pub idle : o ≡ None → (v : ℕ) → v < length accounts →
      account_eligible (account_at accounts v) ≡ false
  pub within : (v : ℕ) → o ≡ Some v → v < length accounts
  pub named : (v : ℕ) → o ≡ Some v → account_eligible (account_at accounts v) ≡ true
  pub first : (u v : ℕ) → o ≡ Some v → u < length accounts →
      account_eligible (account_at accounts u) ≡ true → is_ahead accounts u v ≡ false

-- no period ends before slot `to`
abbrev pub NoEndBefore : List Account → ℕ → Type 0
NoEndBefore accounts to = (v : ℕ) → v < length accounts → to ≤ end_at accounts v

-- the slot at which the first period ends, and one past all where the core has no VCPU
pub record IsFirstEnd (accounts : List Account) (end : ℕ) : Type 0 where
  pub least : NoEndBefore accounts end
  pub is_one : ((length accounts ≡ 0) × (end ≡ PAST_ALL)) ⊎
      ((v : ℕ) × (v < length accounts) × (end_at accounts v ≡ end))
