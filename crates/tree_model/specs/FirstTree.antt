-- The one first run of the whole tree: each node's run is the first run over its slots.
use Rattle.std.specs.Prelude.{◌≡◌, ℕ, ◌<◌, Bool, true, false, List, [], length, slice_index_or, Option}
use Rattle.slot_model.specs.declared.job.Job.{Job}
use Rattle.slot_model.specs.Order.{before_of}
use Rattle.slot_model.specs.Run.{guest, server, FirstRun}
use Rattle.tree_model.specs.declared.place.Place.{Place}
use Rattle.tree_model.specs.declared.place.Place.TheVariants.{Core, Part}
use Rattle.tree_model.specs.View.{SystemView}
use Rattle.tree_model.specs.System.{part_at, own_tasks_at, is_leaf_at}
use Rattle.tree_model.specs.Tree.{node_sched, server_tasks, server_jobs, run_at, supply_of}

-- the first run of a node's servers over some slots
abbrev pub FirstServers : SystemView → List ℕ → ℕ → Place → List Bool → List (Option ℕ) → Type 0
FirstServers sys budgets n node slots run =
    let tasks = server_tasks sys budgets node in
    FirstRun server (before_of (node_sched sys node) tasks) tasks
    (server_jobs sys budgets node n) slots run

-- the first run of a leaf's jobs over some slots
abbrev pub FirstLeaf : SystemView → ℕ → List Job → List Bool → List (Option ℕ) → Type 0
FirstLeaf sys q jobs slots run =
    let tasks = own_tasks_at sys q in
    FirstRun guest (before_of (part_at sys q).sched tasks) tasks jobs slots run

-- the first run of the tree over n slots: `supplies` has a list a core, `jobs` one a part, and the
-- runs are one a core and one a part
pub record FirstTree (sys : SystemView) (budgets : List ℕ) (n : ℕ)
    (supplies : List (List Bool)) (jobs : List (List Job))
    (core_runs part_runs : List (List (Option ℕ))) : Type 0 where
  pub run_each_core : length core_runs ≡ length sys.cores
  pub run_each_part : length part_runs ≡ length sys.parts
  pub cores : (c : ℕ) → c < length sys.cores →
      FirstServers sys budgets n (Core c) (slice_index_or supplies c []) (run_at core_runs c)
  pub inner : (q : ℕ) → q < length sys.parts → is_leaf_at sys q ≡ false →
      FirstServers sys budgets n (Part q) (supply_of sys budgets n core_runs part_runs q)
      (run_at part_runs q)
  pub leaves : (q : ℕ) → q < length sys.parts → is_leaf_at sys q ≡ true →
      FirstLeaf sys q (slice_index_or jobs q []) (supply_of sys budgets n core_runs part_runs q)
      (run_at part_runs q)

-- there is exactly one first run of the tree
pub record OneFirstTree (sys : SystemView) (budgets : List ℕ) (n : ℕ)
    (supplies : List (List Bool)) (jobs : List (List Job)) : Type 0 where
  pub core_runs : List (List (Option ℕ))
  pub part_runs : List (List (Option ℕ))
  pub first : FirstTree sys budgets n supplies jobs core_runs part_runs
  pub only : (other_cores other_parts : List (List (Option ℕ))) →
      FirstTree sys budgets n supplies jobs other_cores other_parts →
      (other_cores ≡ core_runs) × (other_parts ≡ part_runs)
