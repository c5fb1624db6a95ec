-- What a VCPU keeps whatever the others do, and a workload that shows that it does not.
use Rattle.std.specs.Prelude.{◌≡◌, ℕ, suc, ◌+◌, ◌*◌, ◌<◌, ◌≤◌, true, false, List, length, Option}
use Rattle.slot_model.specs.declared.task.TheConstants.{LIMIT}
use Rattle.slot_model.specs.Run.{held, holds}
use Rattle.tree_model.specs.declared.place.Place.TheVariants.{Core}
use Rattle.tree_model.specs.View.{SystemView}
use Rattle.tree_model.specs.System.{part_at}
use Rattle.tree_model.specs.Tree.{is_child, budget_at}
use Rattle.trace_file.specs.Periods.{begins}
use Rattle.release_file.specs.declared.workload.Wake.{Wake}
use Rattle.release_file.specs.Workload.{start_of, is_blocked_at, IsWorkload}
use Rattle.rtds_model.specs.Rtds.{CoreRun}
use Rattle.rtds_model.specs.Giving.{IsStartedOn, ServersFit, slots_got}
use Rattle.isolation.specs.Open.{OpenRun}

-- VCPU v of core c is not blocked in the last t slots of its period k, which ends within n slots
pub record IsAwakeLast (sys : SystemView) (rows : List Wake) (n c v k t : ℕ) : Type 0 where
  pub starts : IsStartedOn sys rows c v
  pub in_run : begins (part_at sys v).period (start_of rows v) (suc k) ≤ n
  pub awake : (x : ℕ) → begins (part_at sys v).period (start_of rows v) (suc k) ≤ x + t →
      x < begins (part_at sys v).period (start_of rows v) (suc k) → is_blocked_at rows v x ≡ false

-- the slots of its period k in which it has its core
abbrev pub got_in : SystemView → List Wake → List (Option ℕ) → ℕ → ℕ → ℕ
got_in sys rows run v k =
    slots_got (λ x. holds (held run x) v) (part_at sys v).period (start_of rows v) k

-- whatever starts, blocks and wakes, v has its budget in each period in whose last t slots it is
-- not blocked: in the run in which the first in the file goes first of those of one deadline
abbrev pub KeepsBudget : SystemView → List ℕ → ℕ → ℕ → ℕ → Type 0
KeepsBudget sys budgets c v t =
    (rows : List Wake) (n : ℕ) (run : List (Option ℕ)) (k : ℕ) → IsWorkload sys rows →
    CoreRun sys budgets rows n c run → IsAwakeLast sys rows n c v k t →
    budget_at budgets v ≤ got_in sys rows run v k

-- and in each run, however ties are broken
abbrev pub KeepsOpenly : SystemView → List ℕ → ℕ → ℕ → ℕ → Type 0
KeepsOpenly sys budgets c v t =
    (rows : List Wake) (n : ℕ) (run : List (Option ℕ)) (k : ℕ) → IsWorkload sys rows →
    OpenRun sys budgets rows n c run → IsAwakeLast sys rows n c v k t →
    budget_at budgets v ≤ got_in sys rows run v k

-- a workload, and a period of v in it in which v never blocks, and in which it has its core in
-- fewer slots than its budget in the run over so many slots, of which there is one
pub record IsBreakable (sys : SystemView) (budgets : List ℕ) (c v most : ℕ) : Type 0 where
  pub rows : List Wake
  pub slots : ℕ
  pub number : ℕ
  pub is_workload : IsWorkload sys rows
  pub few_slots : slots ≤ most
  pub awake : IsAwakeLast sys rows slots c v number (part_at sys v).period
  pub some_run : (run : List (Option ℕ)) × CoreRun sys budgets rows slots c run
  pub short : (run : List (Option ℕ)) → CoreRun sys budgets rows slots c run →
      got_in sys rows run v number < budget_at budgets v

-- no period of a VCPU of core c is longer
abbrev pub PeriodsUpTo : SystemView → ℕ → ℕ → Type 0
PeriodsUpTo sys c longest =
    (u : ℕ) → u < length sys.parts → is_child sys (Core c) u ≡ true →
    (part_at sys u).period ≤ longest

-- where the servers of the core pass the test of earliest deadline first, there is one over no
-- more than three of its longest periods, if two of them do not go beyond what a file may say
abbrev pub IsExposed : SystemView → List ℕ → ℕ → ℕ → Type 0
IsExposed sys budgets c v =
    (longest : ℕ) → ServersFit sys budgets c → PeriodsUpTo sys c longest →
    2 * longest ≤ LIMIT → IsBreakable sys budgets c v (3 * longest)
