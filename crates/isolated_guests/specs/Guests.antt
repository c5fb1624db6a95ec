-- Hosts whose VCPUs halt only where their guests or servers have nothing to do.
use Rattle.std.specs.Prelude.{◌≡◌, ℕ, ◌<◌, true, false, List, length, Option}
use Rattle.slot_model.specs.declared.job.Job.{Job}
use Rattle.slot_model.specs.Order.{before_of}
use Rattle.slot_model.specs.Run.{guest, server}
use Rattle.slot_model.specs.Supply.{GivesBudget}
use Rattle.response_times.specs.Response.{IsGreatestResponse}
use Rattle.tree_model.specs.declared.place.Place.TheVariants.{Part}
use Rattle.tree_model.specs.View.{SystemView}
use Rattle.tree_model.specs.System.{IsSystem, part_at, own_tasks_at, is_leaf_at}
use Rattle.tree_model.specs.Tree.{budget_at, run_at, server_tasks}
use Rattle.tree_model.specs.Releases.{jobs_at}
use Rattle.tree_model.specs.Admission.{Admitted}
use Rattle.release_file.specs.declared.workload.Wake.{Wake}
use Rattle.release_file.specs.Workload.{start_of, is_blocked_at, IsWorkload}
use Rattle.rtds_model.specs.Giving.{IsStartedOn}
use Rattle.isolation.specs.Open.{OpenRun}
use Rattle.isolation.specs.Answers.{own_core}
use Rattle.halting.specs.Halting.{HaltingRun, NoneLost, HasWorkWithin}
use Rattle.isolated_guests.specs.Spared.{RunKind, has_slot}
use Rattle.isolation.specs.Short.{FitsShortest}

-- The guest on leaf v, in n slots of a run of its core: a legal release, whose jobs it runs by its
-- scheduler in the slots in which v has the core. It halts only where none of them is pending.
-- Releases and run count slots from the start of v.
abbrev pub HaltingGuest : SystemView → List Wake → ℕ → List (Option ℕ) → ℕ → List Job →
    List (Option ℕ) → Type 0
HaltingGuest sys rows n run v jobs own_run =
    let tasks = own_tasks_at sys v in
    HaltingRun (is_blocked_at rows v) (has_slot run v) (start_of rows v) n guest
    (before_of (part_at sys v).sched tasks) tasks jobs own_run

-- the servers on inner part v, which halt only where no server has a job pending
abbrev pub HaltingServers : SystemView → List ℕ → List Wake → ℕ → List (Option ℕ) → ℕ →
    List Job → List (Option ℕ) → Type 0
HaltingServers sys budgets rows n run v jobs own_run =
    let tasks = server_tasks sys budgets (Part v) in
    HaltingRun (is_blocked_at rows v) (has_slot run v) (start_of rows v) n server
    (before_of (part_at sys v).sched tasks) tasks jobs own_run

-- Leaf v keeps its deadlines: no job is lost, and each has its work within the greatest response of
-- its task over supplies that give the budget in each period, where it has one. `responses` tells
-- those of each leaf under a fixed priority.
pub record LeafKeeps (sys : SystemView) (budgets : List ℕ) (v : ℕ) (jobs : List Job)
    (own_run : List (Option ℕ)) : Type 0 where
  pub none_lost : NoneLost (own_tasks_at sys v) jobs own_run
  pub in_time : (i t : ℕ) →
      IsGreatestResponse (GivesBudget (part_at sys v).period (budget_at budgets v))
      (before_of (part_at sys v).sched (own_tasks_at sys v)) (own_tasks_at sys v) i t →
      HasWorkWithin jobs own_run i t

-- no job of a server on inner part v is lost
abbrev pub InnerKeeps : SystemView → List ℕ → ℕ → List Job → List (Option ℕ) → Type 0
InnerKeeps sys budgets v = NoneLost (server_tasks sys budgets (Part v))

-- a workload, a run of core c over n slots of it, and part v of that core, which is started
pub record IsPartOfRun (IsRun : RunKind) (sys : SystemView) (budgets : List ℕ) (c v : ℕ)
    (rows : List Wake) (n : ℕ) (run : List (Option ℕ)) : Type 0 where
  pub is_workload : IsWorkload sys rows
  pub is_run : IsRun sys budgets rows n c run
  pub starts : IsStartedOn sys rows c v

-- what part v of core c keeps in each run, whatever the others do, where it halts only where it has
-- nothing to do: a leaf, and an inner part
pub record PartKeeps (IsRun : RunKind) (sys : SystemView) (budgets : List ℕ) (c v : ℕ)
    : Type 0 where
  pub leaf : (rows : List Wake) (n : ℕ) (run : List (Option ℕ)) (jobs : List Job)
      (own_run : List (Option ℕ)) → IsPartOfRun IsRun sys budgets c v rows n run →
      is_leaf_at sys v ≡ true → HaltingGuest sys rows n run v jobs own_run →
      LeafKeeps sys budgets v jobs own_run
  pub inner : (rows : List Wake) (n : ℕ) (run : List (Option ℕ)) (jobs : List Job)
      (own_run : List (Option ℕ)) → IsPartOfRun IsRun sys budgets c v rows n run →
      is_leaf_at sys v ≡ false → HaltingServers sys budgets rows n run v jobs own_run →
      InnerKeeps sys budgets v jobs own_run

-- n slots of a host: a workload, a run of each core over it, however ties are broken, and on each
-- part of a core that is started a guest or servers, which halt only where they have nothing to do
pub record HaltingHost (sys : SystemView) (budgets : List ℕ) (rows : List Wake) (n : ℕ)
    (runs own_runs : List (List (Option ℕ))) (jobs : List (List Job)) : Type 0 where
  pub is_workload : IsWorkload sys rows
  pub cores : (c : ℕ) → c < length sys.cores → OpenRun sys budgets rows n c (run_at runs c)
  pub guests : (q : ℕ) → IsStartedOn sys rows (own_core sys q) q → is_leaf_at sys q ≡ true →
      HaltingGuest sys rows n (run_at runs (own_core sys q)) q (jobs_at jobs q) (run_at own_runs q)
  pub servers : (q : ℕ) → IsStartedOn sys rows (own_core sys q) q → is_leaf_at sys q ≡ false →
      HaltingServers sys budgets rows n (run_at runs (own_core sys q)) q (jobs_at jobs q)
      (run_at own_runs q)

-- each part of a core that is started keeps its deadlines
pub record HostKeeps (sys : SystemView) (budgets : List ℕ) (rows : List Wake)
    (own_runs : List (List (Option ℕ))) (jobs : List (List Job)) : Type 0 where
  pub leaves : (q : ℕ) → IsStartedOn sys rows (own_core sys q) q → is_leaf_at sys q ≡ true →
      LeafKeeps sys budgets q (jobs_at jobs q) (run_at own_runs q)
  pub inner : (q : ℕ) → IsStartedOn sys rows (own_core sys q) q → is_leaf_at sys q ≡ false →
      InnerKeeps sys budgets q (jobs_at jobs q) (run_at own_runs q)

-- so it is on each such host
abbrev pub HostsKeep : SystemView → List ℕ → Type 0
HostsKeep sys budgets =
    (rows : List Wake) (n : ℕ) (runs own_runs : List (List (Option ℕ))) (jobs : List (List Job)) →
    HaltingHost sys budgets rows n runs own_runs jobs → HostKeeps sys budgets rows own_runs jobs

-- where the system is admitted and the budgets of each core come to no more than its shortest
-- period
abbrev pub ShortKeep : Type 0
ShortKeep =
    (sys : SystemView) (budgets : List ℕ) → IsSystem sys → Admitted sys budgets →
    ((c : ℕ) → c < length sys.cores → FitsShortest sys budgets c) → HostsKeep sys budgets
