-- Runs that have the shape of a tree's, slot by slot, and hold jobs that are released. What is
-- counted of a run asks for no more: which job has a slot may be wrong.
use Rattle.std.specs.Prelude.{◌≡◌, ℕ, ◌<◌, Bool, true, false, List, [], length, slice_index_or, Option}
use Rattle.slot_model.specs.declared.job.Job.{Job}
use Rattle.slot_model.specs.Miss.{HoldsReleased}
use Rattle.tree_model.specs.declared.place.Place.TheVariants.{Core, Part}
use Rattle.tree_model.specs.View.{SystemView}
use Rattle.tree_model.specs.System.{is_leaf_at}
use Rattle.tree_model.specs.Tree.{server_jobs, run_at, supply_of}

-- a run of a node is as long as its slots, and each entry is none or one of the node's jobs that is
-- released by then
pub record RunHolds (jobs : List Job) (slots : List Bool) (run : List (Option ℕ)) : Type 0 where
  pub long : length run ≡ length slots
  pub released : HoldsReleased jobs run

-- there is such a run of each core and of each part: of the servers of a core or an inner part, of
-- a leaf's jobs
pub record TreeHolds (sys : SystemView) (budgets : List ℕ) (n : ℕ)
    (supplies : List (List Bool)) (jobs : List (List Job))
    (core_runs part_runs : List (List (Option ℕ))) : Type 0 where
  pub run_each_core : length core_runs ≡ length sys.cores
  pub run_each_part : length part_runs ≡ length sys.parts
  pub cores : (c : ℕ) → c < length sys.cores →
      RunHolds (server_jobs sys budgets (Core c) n) (slice_index_or supplies c [])
      (run_at core_runs c)
  pub inner : (q : ℕ) → q < length sys.parts → is_leaf_at sys q ≡ false →
      RunHolds (server_jobs sys budgets (Part q) n)
      (supply_of sys budgets n core_runs part_runs q) (run_at part_runs q)
  pub leaves : (q : ℕ) → q < length sys.parts → is_leaf_at sys q ≡ true →
      RunHolds (slice_index_or jobs q []) (supply_of sys budgets n core_runs part_runs q)
      (run_at part_runs q)
