-- What is kept of VCPUs and cores between two events.
use Rattle.std.specs.Prelude.{◌≡◌, ◌≢◌, ℕ, suc, ◌+◌, ◌-◌, ◌%◌, ◌<◌, ◌≤◌, ◌==◌, Bool, true, false, if◌then◌else◌, List, [], map, length, slice_index_or, Option, Some, None}
use Rattle.slot_model.specs.declared.task.TheConstants.{LIMIT}
use Rattle.slot_model.specs.Slots.{places_where}
use Rattle.tree_model.specs.declared.place.Place.TheVariants.{Core}
use Rattle.tree_model.specs.View.{SystemView}
use Rattle.tree_model.specs.System.{part_at}
use Rattle.tree_model.specs.Tree.{is_child, budget_at}
use Rattle.trace_file.specs.declared.event.Event.{Event}
use Rattle.trace_file.specs.declared.event.What.TheVariants.{Stop}
use Rattle.release_file.specs.declared.workload.Wake.{Wake as Row}
use Rattle.release_file.specs.declared.workload.WakeKind.{WakeKind}
use Rattle.release_file.specs.declared.workload.WakeKind.TheVariants.{Start, Wake, Block}
use Rattle.release_file.specs.Workload.{started_after, blocked_after}
use Rattle.rtds_queues.specs.declared.account.Account.{Account}
use Rattle.rtds_queues.specs.Accounts.{no_account, account_at, renewed, starting, waking, blocking, had_slots}
use Rattle.rtds_queues.specs.Vcpus.{IsPlaceOf, NoEndBefore}
use Rattle.rtds_sim.specs.declared.host_core.HostCore.{HostCore}
use Rattle.rtds_sim.specs.declared.host.Host.{Host}
use Rattle.rtds_model.specs.Rtds.{used, level_at, deadline_at}
use Rattle.rtds_trace.specs.Printed.{on_at}

-- the account of a part before the first slot
abbrev pub new_account : SystemView → List ℕ → ℕ → Account
new_account sys budgets v =
    record no_account {
      part = v;
      period = (part_at sys v).period;
      budget = budget_at budgets v;
      extra = (part_at sys v).extra;
    }

-- core c before the first slot, with its VCPUs in the order of the file
abbrev pub new_core : SystemView → List ℕ → ℕ → HostCore
new_core sys budgets c =
    record {
      vcpus =
          map (new_account sys budgets) (places_where (is_child sys (Core c)) (length sys.parts));
      holder = None;
    }

abbrev pub core_at : List HostCore → ℕ → HostCore
core_at cores c = slice_index_or cores c (record { vcpus = []; holder = None })

-- which part of the system is meant, if one is
abbrev pub part_of : List Account → Option ℕ → Option ℕ
part_of accounts None = None
part_of accounts (Some v) = Some (account_at accounts v).part

-- the part that has a core, if one has it
abbrev pub holder_of : HostCore → Option ℕ
holder_of core = part_of core.vcpus core.holder

-- the VCPUs stand in the order of the file
abbrev pub InTurn : List Account → Type 0
InTurn accounts = (u v : ℕ) → u < v → v < length accounts →
    (account_at accounts u).part < (account_at accounts v).part

-- an account after a row of its VCPU, at which a period would begin that ends at slot `end`
abbrev pub row_taken : WakeKind → ℕ → Account → Account
row_taken Start end account = starting account end
row_taken Wake end account = waking account
row_taken Block end account = blocking account

-- a row is taken by the VCPU that is its part
pub record TakesRow (row : Row) (old new : List Account) : Type 0 where
  pub one_each : length new ≡ length old
  pub own : (v : ℕ) → v < length old → (account_at old v).part ≡ row.vcpu → account_at new v
      ≡ row_taken row.what (row.at + (account_at old v).period) (account_at old v)
  pub other : (v : ℕ) → v < length old → (account_at old v).part ≢ row.vcpu →
      account_at new v ≡ account_at old v

-- an account some slots later, which its VCPU had or not, and in which it had its budget once more
-- at most
abbrev pub used_more : Account → Bool → ℕ → Account
used_more account has_core slots = if has_core then had_slots account slots else account

-- an account some slots later, at `to`, before which its period does not end
abbrev pub gone_on : Account → Bool → ℕ → ℕ → Account
gone_on account has_core slots to =
    if to == account.until
    then renewed account (to + account.period)
    else used_more account has_core slots

-- the slots until a VCPU that had some has had its budget once more
abbrev pub left_of : ℕ → ℕ → ℕ
left_of slots budget = budget - slots % budget

-- whether a VCPU, if one is meant, is blocked
abbrev pub is_blocked_in : List Account → Option ℕ → Bool
is_blocked_in accounts None = false
is_blocked_in accounts (Some v) = (account_at accounts v).blocked

-- whether the VCPU of a core gives it up, and the core where it does if it is blocked
abbrev pub gives_up : HostCore → Bool
gives_up core = is_blocked_in core.vcpus core.holder

abbrev pub core_left : HostCore → HostCore
core_left core = if gives_up core then record core { holder = None } else core

-- what is told of core c when blocked VCPUs give their cores up
abbrev pub stop_of : Host → ℕ → Option Event
stop_of host c =
    if gives_up (core_at host.cores.items c) then Some (on_at c host.time Stop) else None

-- the account of VCPU v at slot x, after the first k rows: whether it is started and blocked, and
-- where it is, when its period ends, how often it has had its budget in it before x, and how many
-- slots are left until it has again
pub record IsInPeriod (sys : SystemView) (budgets : List ℕ) (rows : List Row)
    (run : List (Option ℕ)) (v x : ℕ) (account : Account) : Type 0 where
  pub until_is : account.until ≡ deadline_at sys rows v x
  pub level_is : account.level ≡ level_at sys budgets rows run v x
  pub left_is : account.left ≡ left_of (used sys rows run v x) (budget_at budgets v)
  pub begun : account.until ≤ x + (part_at sys v).period
  pub not_over : x < account.until

pub record IsAccount (sys : SystemView) (budgets : List ℕ) (rows : List Row)
    (run : List (Option ℕ)) (v x k : ℕ) (account : Account) : Type 0 where
  pub started : account.started ≡ started_after rows k v
  pub blocked : account.blocked ≡ blocked_after rows k v
  pub in_period : account.started ≡ true → IsInPeriod sys budgets rows run v x account

-- an account has the numbers of part v
pub record HasNumbers (sys : SystemView) (budgets : List ℕ) (v : ℕ) (account : Account) :
    Type 0 where
  pub period_is : account.period ≡ (part_at sys v).period
  pub budget_is : account.budget ≡ budget_at budgets v
  pub extra_is : account.extra ≡ (part_at sys v).extra

-- the accounts are those of the VCPUs of core c
pub record AreOf (sys : SystemView) (budgets : List ℕ) (c : ℕ) (accounts : List Account) :
    Type 0 where
  pub parts : (v : ℕ) → v < length accounts → (account_at accounts v).part < length sys.parts
  pub on_core : (v : ℕ) → v < length accounts →
      is_child sys (Core c) (account_at accounts v).part ≡ true
  pub numbers : (v : ℕ) → v < length accounts →
      HasNumbers sys budgets (account_at accounts v).part (account_at accounts v)
  pub all : (q : ℕ) → q < length sys.parts → is_child sys (Core c) q ≡ true →
      (v : ℕ) × IsPlaceOf accounts q v

-- and they are as they come at slot x, after the first k rows
pub record AreOn (sys : SystemView) (budgets : List ℕ) (rows : List Row) (c : ℕ)
    (run : List (Option ℕ)) (x k : ℕ) (accounts : List Account) : Type 0 where
  pub of : AreOf sys budgets c accounts
  pub each : (v : ℕ) → v < length accounts →
      IsAccount sys budgets rows run (account_at accounts v).part x k (account_at accounts v)

-- a period and a budget are in range
pub record AreInRange (period budget : ℕ) : Type 0 where
  pub some_period : 1 ≤ period
  pub in_limit : period ≤ LIMIT
  pub some_budget : 1 ≤ budget

-- the numbers of an account are in range, its level is small, and of its slots some are left
pub record IsSound (time : ℕ) (account : Account) : Type 0 where
  pub numbers : AreInRange account.period account.budget
  pub few : account.level ≤ time
  pub some_left : 1 ≤ account.left

-- the accounts are sound, no period ends by the next slot, and what has the core is one of its
-- VCPUs
pub record IsReady (time : ℕ) (core : HostCore) : Type 0 where
  pub sound : (v : ℕ) → v < length core.vcpus → IsSound time (account_at core.vcpus v)
  pub in_turn : InTurn core.vcpus
  pub ends : NoEndBefore core.vcpus (suc time)
  pub holder : (v : ℕ) → core.holder ≡ Some v → v < length core.vcpus

abbrev pub AreReady : Host → Type 0
AreReady host = (c : ℕ) → c < length host.cores.items →
    IsReady host.time (core_at host.cores.items c)
