-- What RTDS gives VCPUs that can always run.
use Rattle.std.specs.Prelude.{◌≡◌, ℕ, suc, ◌<◌, ◌≤◌, Bool, true, false, List, length, Option}
use Rattle.slot_model.specs.Run.{held, holds}
use Rattle.slot_model.specs.Bound.{DemandFits}
use Rattle.tree_model.specs.declared.place.Place.TheVariants.{Core}
use Rattle.tree_model.specs.View.{SystemView}
use Rattle.tree_model.specs.System.{part_at}
use Rattle.tree_model.specs.Tree.{is_child, budget_at, run_at, server_tasks}
use Rattle.trace_file.specs.declared.event.Event.{Event}
use Rattle.trace_file.specs.Periods.{begins, count_between, IsOver}
use Rattle.release_file.specs.declared.workload.Wake.{Wake}
use Rattle.release_file.specs.Workload.{is_started, start_of, is_blocked_at}
use Rattle.rtds_model.specs.Rtds.{RtdsRun}

-- a VCPU of core c that the workload starts
pub record IsStartedOn (sys : SystemView) (rows : List Wake) (c v : ℕ) : Type 0 where
  pub is_part : v < length sys.parts
  pub on_core : is_child sys (Core c) v ≡ true
  pub started : is_started rows v ≡ true

-- no VCPU that the workload starts on core c ever blocks
pub record AlwaysRunnable (sys : SystemView) (rows : List Wake) (c : ℕ) : Type 0 where
  pub awake : (v x : ℕ) → IsStartedOn sys rows c v → is_blocked_at rows v x ≡ false

-- the servers of a full core pass the test of earliest deadline first
abbrev pub ServersFit : SystemView → List ℕ → ℕ → Type 0
ServersFit sys budgets c = DemandFits (server_tasks sys budgets (Core c)) (λ t. t)

-- of a VCPU whose periods count from f: in how many slots of its period k it has its core
abbrev pub slots_got : (ℕ → Bool) → ℕ → ℕ → ℕ → ℕ
slots_got runs period f k = count_between runs (begins period f k) (begins period f (suc k))

-- on each core the servers pass, and no VCPU that the workload starts ever blocks
pub record AlwaysServed (sys : SystemView) (budgets : List ℕ) (rows : List Wake) : Type 0 where
  pub runnable : (c : ℕ) → c < length sys.cores → AlwaysRunnable sys rows c
  pub fit : (c : ℕ) → c < length sys.cores → ServersFit sys budgets c

-- each VCPU that is started has its core at no fewer than its budget of slots in each of its
-- periods that end within n slots
abbrev pub GivesBudgets : SystemView → List ℕ → List Wake → ℕ → ℕ → List (Option ℕ) → Type 0
GivesBudgets sys budgets rows n c run =
    (v k : ℕ) → IsStartedOn sys rows c v →
    begins (part_at sys v).period (start_of rows v) (suc k) ≤ n →
    budget_at budgets v ≤ slots_got (λ x. holds (held run x) v) (part_at sys v).period
    (start_of rows v) k

-- and over any workload no VCPU without extra time has its core at more than its budget of slots in
-- a period
abbrev pub NeverOver : SystemView → List ℕ → List Wake → List (Option ℕ) → Type 0
NeverOver sys budgets rows run =
    (v k : ℕ) → v < length sys.parts → (part_at sys v).extra ≡ false →
    slots_got (λ x. holds (held run x) v) (part_at sys v).period
    (start_of rows v) k ≤ budget_at budgets v

-- what each run over n slots gives: the budgets, on a core whose servers pass the test and whose
-- VCPUs never block, whenever each starts; and over any workload no more to one without extra time
pub record RunsGive (sys : SystemView) (budgets : List ℕ) (rows : List Wake) (n : ℕ) : Type 0
  where
    pub gives : (runs : List (List (Option ℕ))) (c : ℕ) → RtdsRun sys budgets rows n runs →
        c < length sys.cores → AlwaysRunnable sys rows c → ServersFit sys budgets c →
        GivesBudgets sys budgets rows n c (run_at runs c)
    pub never_over : (runs : List (List (Option ℕ))) (c : ℕ) → RtdsRun sys budgets rows n runs →
        c < length sys.cores → NeverOver sys budgets rows (run_at runs c)

-- no period in a trace is over
abbrev pub NoneOver : SystemView → List ℕ → List Event → Type 0
NoneOver sys budgets events = (v f k : ℕ) → IsOver sys budgets events v f k → ⊥
