-- What is spared and passes its test keeps its deadlines where it halts.
use Rattle.std.proofs.Common.{◌≡◌, ℕ, ◌<◌, true, false, List, length, Option}
use Rattle.slot_model.specs.declared.job.Job.{Job}
use Rattle.slot_model.specs.Order.{before_of}
use Rattle.slot_model.specs.Run.{guest, server}
use Rattle.tree_model.specs.declared.place.Place.TheVariants.{Core, Part}
use Rattle.tree_model.specs.View.{SystemView}
use Rattle.tree_model.specs.System.{part_at, own_tasks_at, is_leaf_at, IsSystem}
use Rattle.tree_model.specs.Tree.{is_child, budget_at, run_at, server_tasks}
use Rattle.tree_model.specs.Releases.{jobs_at}
use Rattle.tree_model.specs.Plans.{IsPlan}
use Rattle.tree_model.proofs.InRange.{assigned_is_plan}
use Rattle.compose_tree.specs.Keeping.{Keeping}
use Rattle.compose_tree.proofs.Sound.{admitted_keeping}
use Rattle.release_file.specs.declared.workload.Wake.{Wake}
use Rattle.release_file.specs.Workload.{start_of, is_blocked_at}
use Rattle.rtds_model.specs.Rtds.{CoreRun}
use Rattle.rtds_model.specs.Giving.{IsStartedOn}
use Rattle.isolation.specs.Demand.{no_tie, IsIsolatedBy}
use Rattle.isolation.specs.Open.{OpenRun}
use Rattle.isolation.specs.Answers.{own_core}
use Rattle.halting.specs.Halting.{IsAdmittedRun}
use Rattle.halting.proofs.Halting.{runs_as_admitted, keeps_deadlines}
use Rattle.isolated_guests.specs.Spared.{RunKind, has_slot, IsSpared, IsSparedInRuns}
use Rattle.isolated_guests.specs.Guests.{HaltingGuest, HaltingServers, LeafKeeps, InnerKeeps, IsPartOfRun, PartKeeps, HostsKeep, ShortKeep}
use Rattle.isolated_guests.proofs.Spared.{core_within, file_order_is_open, spared_openly}
use Rattle.isolation.proofs.Fits.{isolated_where_short}

module _ (sys : SystemView) (budgets : List ℕ) (keeping : Keeping sys budgets) (rows : List Wake) (n : ℕ)
    (run : List (Option ℕ)) (v : ℕ) (l : v < length sys.parts) (spared : IsSpared sys budgets rows n run v)
    (jobs : List Job) (own_run : List (Option ℕ)) where
  abbrev P : ℕ
  P = (part_at sys v).period

  abbrev B : ℕ
  B = budget_at budgets v

  leaf_keeps : is_leaf_at sys v ≡ true → HaltingGuest sys rows n run v jobs own_run
      → LeafKeeps sys budgets v jobs own_run
  leaf_keeps leaf h =
      let tasks = own_tasks_at sys v in
      let before = before_of (part_at sys v).sched tasks in
      let a : IsAdmittedRun P B before tasks guest jobs own_run
      = runs_as_admitted P B before tasks (is_blocked_at rows v) (has_slot run v) (start_of rows v) n guest jobs own_run
      spared h in
      record {
        none_lost = keeps_deadlines P B before tasks (keeping.leaves v l leaf) (is_blocked_at rows v) (has_slot run v)
            (start_of rows v) n guest jobs own_run spared h;
        in_time = λ i t greatest j is_job mine fits.
            greatest.within jobs a.slots own_run a.gives h.legal a.permitted j is_job mine fits;
      }

  inner_keeps : is_leaf_at sys v ≡ false → HaltingServers sys budgets rows n run v jobs own_run
      → InnerKeeps sys budgets v jobs own_run
  inner_keeps inner h =
      let tasks = server_tasks sys budgets (Part v) in
      keeps_deadlines P B (before_of (part_at sys v).sched tasks) tasks (keeping.inner v l inner) (is_blocked_at rows v)
      (has_slot run v) (start_of rows v) n server jobs own_run spared h

pub part_keeps : (IsRun : RunKind) (sys : SystemView) (budgets : List ℕ) → Keeping sys budgets → (c v : ℕ)
    → IsSparedInRuns IsRun sys budgets c v → PartKeeps IsRun sys budgets c v
part_keeps IsRun sys budgets keeping c v few = record {
  leaf = λ rows n run jobs own_run is leaf h. leaf_keeps sys budgets keeping rows n run v is.starts.is_part
      (few rows n run is.is_workload is.is_run is.starts) jobs own_run leaf h;
  inner = λ rows n run jobs own_run is inner h. inner_keeps sys budgets keeping rows n run v is.starts.is_part
      (few rows n run is.is_workload is.is_run is.starts) jobs own_run inner h;
}

-- what is kept however ties are broken is kept in the order of the file
pub keeps_by_place : (sys : SystemView) (budgets : List ℕ) (c v : ℕ) → PartKeeps OpenRun sys budgets c v
    → PartKeeps CoreRun sys budgets c v
keeps_by_place sys budgets c v keeps = record {
  leaf = λ rows n run jobs own_run is. keeps.leaf rows n run jobs own_run
      (record {
        is_workload = is.is_workload;
        is_run = file_order_is_open sys budgets rows n c run is.is_run;
        starts = is.starts;
      });
  inner = λ rows n run jobs own_run is. keeps.inner rows n run jobs own_run
      (record {
        is_workload = is.is_workload;
        is_run = file_order_is_open sys budgets rows n c run is.is_run;
        starts = is.starts;
      });
}

-- a host each of whose VCPUs is isolated, whichever are started
pub hosts_keep : (sys : SystemView) (budgets : List ℕ) → IsSystem sys
    → ((c q : ℕ) → q < length sys.parts → is_child sys (Core c) q ≡ true → PartKeeps OpenRun sys budgets c q)
    → HostsKeep sys budgets
hosts_keep sys budgets system each rows n runs own_runs jobs host =
    let in_run : (q : ℕ) (s : IsStartedOn sys rows (own_core sys q) q)
    → IsPartOfRun OpenRun sys budgets (own_core sys q) q rows n (run_at runs (own_core sys q))
    = λ q s. record {
      is_workload = host.is_workload;
      is_run = host.cores (own_core sys q) (core_within sys system (own_core sys q) q s.is_part s.on_core);
      starts = s;
    } in
    record {
      leaves = λ q s leaf. (each (own_core sys q) q s.is_part s.on_core).leaf rows n (run_at runs (own_core sys q))
          (jobs_at jobs q) (run_at own_runs q) (in_run q s) leaf (host.guests q s leaf);
      inner = λ q s inner. (each (own_core sys q) q s.is_part s.on_core).inner rows n (run_at runs (own_core sys q))
          (jobs_at jobs q) (run_at own_runs q) (in_run q s) inner (host.servers q s inner);
    }

pub short_keep : ShortKeep
short_keep sys budgets system admitted fits =
    let plan : IsPlan sys budgets = assigned_is_plan sys system budgets admitted.assigned in
    let keeping : Keeping sys budgets = admitted_keeping sys system budgets admitted in
    hosts_keep sys budgets system (λ c q l child.
    let w : (t : ℕ) × IsIsolatedBy no_tie sys budgets c q t
    = (isolated_where_short sys budgets c plan).0 (fits c (core_within sys system c q l child)) q l child in
    part_keeps OpenRun sys budgets keeping c q (spared_openly sys budgets plan c q w.0 w.1))
