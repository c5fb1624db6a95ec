-- The run of deferrable servers with extra time, under earliest deadline first on each core by
-- itself.
use Rattle.std.specs.Prelude.{◌≡◌, ℕ, suc, ◌-◌, ◌/◌, ◌<◌, Bool, true, false, not, ◌&&◌, ◌||◌, nat_lt, List, length, Option, Some, None}
use Rattle.slot_model.specs.Run.{held, holds}
use Rattle.tree_model.specs.declared.place.Place.TheVariants.{Core}
use Rattle.tree_model.specs.View.{SystemView}
use Rattle.tree_model.specs.System.{core_at, is_edf, part_at}
use Rattle.tree_model.specs.Tree.{is_child, budget_at, run_at}
use Rattle.trace_file.specs.Periods.{begins, count_between}
use Rattle.release_file.specs.declared.workload.Wake.{Wake}
use Rattle.rtds_queues.specs.Keys.{goes_first}
use Rattle.release_file.specs.Workload.{is_started_at, is_blocked_at, start_of}

-- a core without a supply of its own has every slot
abbrev pub is_full : Option (ℕ × ℕ) → Bool
is_full None = true
is_full (Some supply) = false

-- RTDS works on full cores under earliest deadline first
abbrev pub is_rtds : SystemView → ℕ → Bool
is_rtds sys c = is_full (core_at sys c).supply && is_edf (core_at sys c).sched

-- the period in which slot x is, of a VCPU that starts at f: its number, counted from the start
abbrev pub period_number : ℕ → ℕ → ℕ → ℕ
period_number period f x = (x - f) / period

-- where the period of VCPU v begins and ends in which slot x is
abbrev pub period_from : SystemView → List Wake → ℕ → ℕ → ℕ
period_from sys rows v x =
    begins (part_at sys v).period (start_of rows v)
    (period_number (part_at sys v).period (start_of rows v) x)

abbrev pub deadline_at : SystemView → List Wake → ℕ → ℕ → ℕ
deadline_at sys rows v x =
    begins (part_at sys v).period (start_of rows v)
    (suc (period_number (part_at sys v).period (start_of rows v) x))

-- the slots that VCPU v had in that period before x, where `run` names for each slot of its core a
-- VCPU or none
abbrev pub used : SystemView → List Wake → List (Option ℕ) → ℕ → ℕ → ℕ
used sys rows run v x = count_between (λ y. holds (held run y) v) (period_from sys rows v x) x

-- its level: how often it has had its budget
abbrev pub level_at : SystemView → List ℕ → List Wake → List (Option ℕ) → ℕ → ℕ → ℕ
level_at sys budgets rows run v x = used sys rows run v x / budget_at budgets v

-- a VCPU of core c that is started and not blocked
abbrev pub can_run : SystemView → List Wake → ℕ → ℕ → ℕ → Bool
can_run sys rows c v x =
    (nat_lt v (length sys.parts) && is_child sys (Core c) v) &&
    (is_started_at rows v x && not (is_blocked_at rows v x))

-- it is eligible while it has budget left, and always with extra time
abbrev pub is_eligible : SystemView → List ℕ → List Wake → ℕ → List (Option ℕ) → ℕ → ℕ → Bool
is_eligible sys budgets rows c run v x =
    can_run sys rows c v x &&
    (nat_lt (used sys rows run v x) (budget_at budgets v) || (part_at sys v).extra)

abbrev pub goes_before : SystemView → List ℕ → List Wake → List (Option ℕ) → ℕ → ℕ → ℕ → Bool
goes_before sys budgets rows run x u v =
    goes_first (level_at sys budgets rows run u x) (deadline_at sys rows u x) u
    (level_at sys budgets rows run v x) (deadline_at sys rows v x) v

-- what slot x of core c holds: the eligible VCPU before which no eligible one goes, and none where
-- none is eligible
pub record RtdsEntry (sys : SystemView) (budgets : List ℕ) (rows : List Wake) (c : ℕ)
    (run : List (Option ℕ)) (x : ℕ) (entry : Option ℕ) : Type 0 where
  pub idle : entry ≡ None → (v : ℕ) → is_eligible sys budgets rows c run v x ≡ false
  pub named : (v : ℕ) → entry ≡ Some v → is_eligible sys budgets rows c run v x ≡ true
  pub first : (u v : ℕ) → entry ≡ Some v → is_eligible sys budgets rows c run u x ≡ true →
      goes_before sys budgets rows run x u v ≡ false

-- the run of core c over n slots
pub record CoreRun (sys : SystemView) (budgets : List ℕ) (rows : List Wake) (n c : ℕ)
    (run : List (Option ℕ)) : Type 0 where
  pub long : length run ≡ n
  pub each : (x : ℕ) → x < n → RtdsEntry sys budgets rows c run x (held run x)

-- the runs of all cores
pub record RtdsRun (sys : SystemView) (budgets : List ℕ) (rows : List Wake) (n : ℕ)
    (runs : List (List (Option ℕ))) : Type 0 where
  pub one_each : length runs ≡ length sys.cores
  pub cores : (c : ℕ) → c < length sys.cores → CoreRun sys budgets rows n c (run_at runs c)
