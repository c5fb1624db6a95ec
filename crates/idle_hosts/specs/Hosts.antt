-- Hosts whose leaves are blocked exactly where they have nothing to do.
use Rattle.std.specs.Prelude.{◌≡◌, ℕ, ◌+◌, ◌<◌, ◌≤◌, true, false, List, Option}
use Rattle.slot_model.specs.declared.job.Job.{Job}
use Rattle.slot_model.specs.declared.task.TheConstants.{LIMIT}
use Rattle.slot_model.specs.Release.{LegalRelease, start_at}
use Rattle.slot_model.specs.Run.{guest, Pending}
use Rattle.tree_model.specs.declared.place.Place.TheVariants.{Part}
use Rattle.tree_model.specs.View.{SystemView}
use Rattle.tree_model.specs.System.{IsSystem, own_tasks_at, is_leaf_at}
use Rattle.tree_model.specs.Tree.{run_at, server_tasks}
use Rattle.tree_model.specs.Releases.{jobs_at}
use Rattle.trace_file.specs.Rules.{is_vcpu}
use Rattle.release_file.specs.declared.workload.Wake.{Wake}
use Rattle.release_file.specs.Workload.{is_started, start_of, is_blocked_at}
use Rattle.rtds_model.specs.Rtds.{RtdsRun}
use Rattle.isolated_guests.specs.Guests.{HaltingHost}

-- no job of leaf q is pending x slots after its start
abbrev pub IsIdleAt : SystemView → List Job → List (Option ℕ) → ℕ → ℕ → Type 0
IsIdleAt sys jobs own_run q x =
    (j : ℕ) → Pending guest (own_tasks_at sys q) jobs own_run j x → ⊥

-- in n slots leaf q is blocked exactly where it is idle, but for the slot of its start, at which a
-- VCPU never is
pub record IsBlockedWhereIdle (sys : SystemView) (rows : List Wake) (n q : ℕ) (jobs : List Job)
    (own_run : List (Option ℕ)) : Type 0 where
  pub only_idle : (x : ℕ) → 0 < x → start_of rows q + x < n →
      is_blocked_at rows q (start_of rows q + x) ≡ true → IsIdleAt sys jobs own_run q x
  pub each_idle : (x : ℕ) → 0 < x → start_of rows q + x < n → IsIdleAt sys jobs own_run q x →
      is_blocked_at rows q (start_of rows q + x) ≡ true

-- VCPU q starts at a slot
pub record StartsAt (rows : List Wake) (q slot : ℕ) : Type 0 where
  pub started : is_started rows q ≡ true
  pub at_slot : start_of rows q ≡ slot

-- n slots of a host each of whose VCPUs starts where it is told: a workload, its run of each core
-- in the order of the file, and runs of these jobs on each VCPU, a guest's or servers'. Leaves are
-- blocked exactly where they are idle, and inner parts never.
pub record IdleHost (sys : SystemView) (budgets starts : List ℕ) (n : ℕ) (jobs : List (List Job))
    : Type 0 where
  pub rows : List Wake
  pub runs : List (List (Option ℕ))
  pub own_runs : List (List (Option ℕ))
  pub halts : HaltingHost sys budgets rows n runs own_runs jobs
  pub is_run : RtdsRun sys budgets rows n runs
  pub start : (q : ℕ) → is_vcpu sys q ≡ true → StartsAt rows q (start_at starts q)
  pub leaves : (q : ℕ) → is_vcpu sys q ≡ true → is_leaf_at sys q ≡ true →
      IsBlockedWhereIdle sys rows n q (jobs_at jobs q) (run_at own_runs q)
  pub inner : (q x : ℕ) → is_vcpu sys q ≡ true → is_leaf_at sys q ≡ false → x < n →
      is_blocked_at rows q x ≡ false

-- each VCPU starts at a slot that a workload file may say
abbrev pub AreStarts : SystemView → List ℕ → Type 0
AreStarts sys starts = (q : ℕ) → is_vcpu sys q ≡ true → start_at starts q ≤ LIMIT

-- the jobs of each VCPU are a legal release: of the tasks of a leaf, and of the servers on an inner
-- part
pub record AreLegalOnCores (sys : SystemView) (budgets : List ℕ) (jobs : List (List Job)) : Type 0
  where
    pub leaves : (q : ℕ) → is_vcpu sys q ≡ true → is_leaf_at sys q ≡ true →
        LegalRelease (own_tasks_at sys q) (jobs_at jobs q)
    pub inner : (q : ℕ) → is_vcpu sys q ≡ true → is_leaf_at sys q ≡ false →
        LegalRelease (server_tasks sys budgets (Part q)) (jobs_at jobs q)

-- for all budgets, starts and legal releases there is such a host, over as many slots as the rows
-- of a workload may reach
abbrev pub IdleHostsExist : Type 0
IdleHostsExist =
    (sys : SystemView) (budgets starts : List ℕ) (n : ℕ) (jobs : List (List Job)) → IsSystem sys →
    AreStarts sys starts → n ≤ LIMIT → AreLegalOnCores sys budgets jobs →
    IdleHost sys budgets starts n jobs
