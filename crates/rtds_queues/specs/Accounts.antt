-- A VCPU of a core: its numbers, and what is kept of it between two events.
use Rattle.std.specs.Prelude.{ℕ, suc, ◌+◌, ◌-◌, ◌==◌, Bool, true, false, not, ◌&&◌, ◌||◌, nat_lt, if◌then◌else◌, List, slice_index_or}
use Rattle.rtds_queues.specs.declared.account.Account.{Account}
use Rattle.rtds_queues.specs.declared.account.Change.{Change}
use Rattle.rtds_queues.specs.declared.account.Change.TheVariants.{Start, Wake, Block, Begin, HadBudget}
use Rattle.rtds_queues.specs.declared.account.TheConstants.{PAST_ALL}
use Rattle.rtds_queues.specs.Keys.{goes_first}

abbrev pub no_account : Account
no_account =
    record {
      part = 0;
      period = 1;
      budget = 1;
      extra = false;
      started = false;
      blocked = false;
      until = PAST_ALL;
      level = 0;
      left = 1;
    }

abbrev pub account_at : List Account → ℕ → Account
account_at accounts v = slice_index_or accounts v no_account

-- the slot at which the period of VCPU v ends
abbrev pub end_at : List Account → ℕ → ℕ
end_at accounts v = (account_at accounts v).until

-- an account where a period begins that ends at slot `end`
abbrev pub renewed : Account → ℕ → Account
renewed account end = record account { until = end; level = 0; left = account.budget }

-- an account whose VCPU has had some slots, and one whose VCPU has had its budget once more
abbrev pub using : Account → ℕ → Account
using account slots = record account { left = account.left - slots }

abbrev pub had_budget : Account → Account
had_budget account = record account { level = suc account.level; left = account.budget }

-- an account whose VCPU starts, in a period that ends at slot `end`, wakes, or blocks
abbrev pub starting : Account → ℕ → Account
starting account end = renewed (record account { started = true; blocked = false }) end

abbrev pub waking : Account → Account
waking account = record account { blocked = false }

abbrev pub blocking : Account → Account
blocking account = record account { blocked = true }

-- an account after a change
abbrev pub changed : Change → Account → Account
changed (Start end) account = starting account end
changed Wake account = waking account
changed Block account = blocking account
changed (Begin end) account = renewed account end
changed HadBudget account = had_budget account

-- an account whose VCPU has had some slots, which were its budget once more or left some of it
abbrev pub had_slots : Account → ℕ → Account
had_slots account slots =
    if nat_lt slots account.left then using account slots else had_budget account

-- an account at a slot, where its next period begins if the one before ends there
abbrev pub begun : Account → ℕ → Account
begun account at =
    if at == account.until then renewed account (at + account.period) else account

-- whether it is started and not blocked, and has budget left or extra time
abbrev pub account_eligible : Account → Bool
account_eligible account =
    (account.started && not account.blocked) && ((account.level == 0) || account.extra)

-- whether VCPU u of an account goes before VCPU v of another
abbrev pub goes_ahead : Account → ℕ → Account → ℕ → Bool
goes_ahead account u other v =
    goes_first account.level account.until u other.level other.until v

-- whether one VCPU goes before another, by their accounts
abbrev pub is_ahead : List Account → ℕ → ℕ → Bool
is_ahead accounts u v = goes_ahead (account_at accounts u) u (account_at accounts v) v
