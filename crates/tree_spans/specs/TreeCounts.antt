-- What is counted of the runs of a tree, node by node.
use Rattle.std.specs.Prelude.{◌≡◌, ℕ, ◌<◌, ◌==◌, ◌&&◌, Bool, true, false, List, [], length, slice_index_or, Option, None}
use Rattle.std.specs.List.{list_all}
use Rattle.slot_model.specs.declared.job.Job.{Job}
use Rattle.slot_model.specs.Miss.{NoneMissed}
use Rattle.span_counts.specs.declared.counts.Counts.{Counts}
use Rattle.span_counts.specs.Counts.{AreCounts}
use Rattle.tree_model.specs.declared.place.Place.TheVariants.{Core, Part}
use Rattle.tree_model.specs.View.{SystemView}
use Rattle.tree_model.specs.System.{own_tasks_at, is_leaf_at}
use Rattle.tree_model.specs.Tree.{server_tasks, server_jobs, run_at, supply_of}

-- the counts of each core and of each part, in file order
pub record CountsView : Type 0 where
  pub cores : List Counts
  pub parts : List Counts

abbrev pub no_counts : Counts
no_counts = record { given = 0; released = 0; missed = 0; first = None }

abbrev pub counts_at : List Counts → ℕ → Counts
counts_at counts i = slice_index_or counts i no_counts

-- the counts of each node's run: of the servers of a core or an inner part, of a leaf's jobs
pub record AreTreeCounts (sys : SystemView) (budgets : List ℕ) (n : ℕ)
    (supplies : List (List Bool)) (jobs : List (List Job))
    (core_runs part_runs : List (List (Option ℕ))) (counts : CountsView) : Type 0 where
  pub each_core : length counts.cores ≡ length sys.cores
  pub each_part : length counts.parts ≡ length sys.parts
  pub cores : (c : ℕ) → c < length sys.cores →
      AreCounts (server_tasks sys budgets (Core c)) (server_jobs sys budgets (Core c) n)
      (slice_index_or supplies c []) (run_at core_runs c) (counts_at counts.cores c)
  pub inner : (q : ℕ) → q < length sys.parts → is_leaf_at sys q ≡ false →
      AreCounts (server_tasks sys budgets (Part q)) (server_jobs sys budgets (Part q) n)
      (supply_of sys budgets n core_runs part_runs q) (run_at part_runs q)
      (counts_at counts.parts q)
  pub leaves : (q : ℕ) → q < length sys.parts → is_leaf_at sys q ≡ true →
      AreCounts (own_tasks_at sys q) (slice_index_or jobs q [])
      (supply_of sys budgets n core_runs part_runs q) (run_at part_runs q)
      (counts_at counts.parts q)

-- no job of any node misses: no server's, and no leaf's own
pub record NoneMisses (sys : SystemView) (budgets : List ℕ) (n : ℕ) (jobs : List (List Job))
    (core_runs part_runs : List (List (Option ℕ))) : Type 0 where
  pub cores : (c : ℕ) → c < length sys.cores →
      NoneMissed (server_tasks sys budgets (Core c)) (server_jobs sys budgets (Core c) n)
      (run_at core_runs c)
  pub inner : (q : ℕ) → q < length sys.parts → is_leaf_at sys q ≡ false →
      NoneMissed (server_tasks sys budgets (Part q)) (server_jobs sys budgets (Part q) n)
      (run_at part_runs q)
  pub leaves : (q : ℕ) → q < length sys.parts → is_leaf_at sys q ≡ true →
      NoneMissed (own_tasks_at sys q) (slice_index_or jobs q []) (run_at part_runs q)

-- whether none of these counts, and of no node, have a miss
abbrev pub none_missed : List Counts → Bool
none_missed counts = list_all (λ (c : Counts). c.missed == 0) counts

abbrev pub no_node_misses : CountsView → Bool
no_node_misses counts = none_missed counts.cores && none_missed counts.parts
