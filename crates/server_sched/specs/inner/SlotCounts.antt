-- What is counted of runs that stand slot by slot, node by node.
use Rattle.std.specs.Prelude.{◌≡◌, ℕ, ◌<◌, Bool, true, false, List, [], length, slice_index_or, Option}
use Rattle.slot_model.specs.declared.job.Job.{Job}
use Rattle.span_counts.specs.declared.counts.Counts.{Counts}
use Rattle.span_counts.specs.Counts.{AreCounts}
use Rattle.tree_model.specs.declared.place.Place.{Place}
use Rattle.tree_model.specs.declared.place.Place.TheVariants.{Core, Part}
use Rattle.tree_model.specs.View.{SystemView}
use Rattle.tree_model.specs.System.{own_tasks_at, is_leaf_at}
use Rattle.tree_model.specs.Tree.{server_tasks, server_jobs, run_at, run_of, supply_of}
use Rattle.slot_model.specs.Miss.{HoldsReleased}
use Rattle.server_sched.specs.Shapes.{TreeHolds}
use Rattle.tree_spans.specs.TreeCounts.{counts_at}
use Rattle.tree_spans.specs.TreeSpans.{parent_of}

-- the runs have the shape of the tree's over some slots and these jobs
pub record OfTree (sys : SystemView) (budgets : List ℕ) (n : ℕ) (jobs : List (List Job))
    (core_runs part_runs : List (List (Option ℕ))) : Type 0 where
  pub supplies : List (List Bool)
  pub holds : TreeHolds sys budgets n supplies jobs core_runs part_runs

-- the run of the parent of part q holds jobs of its servers that are released
abbrev pub ParentHolds : SystemView → List ℕ → ℕ → ℕ → List (List (Option ℕ)) →
    List (List (Option ℕ)) → Type 0
ParentHolds sys budgets n q core_runs part_runs =
    HoldsReleased (server_jobs sys budgets (parent_of sys q) n)
    (run_of core_runs part_runs (parent_of sys q))

-- a node has a run among one a core and one a part
abbrev pub HasRun : List (List (Option ℕ)) → List (List (Option ℕ)) → Place → Type 0
HasRun core_runs part_runs (Core c) = c < length core_runs
HasRun core_runs part_runs (Part q) = q < length part_runs

-- the counts of the first m cores
pub record AreCoreCounts (sys : SystemView) (budgets : List ℕ) (n : ℕ)
    (supplies : List (List Bool)) (core_runs : List (List (Option ℕ))) (m : ℕ)
    (counts : List Counts) : Type 0 where
  pub long : length counts ≡ m
  pub each : (c : ℕ) → c < m →
      AreCounts (server_tasks sys budgets (Core c)) (server_jobs sys budgets (Core c) n)
      (slice_index_or supplies c []) (run_at core_runs c) (counts_at counts c)

-- the counts of a part's run over its slots, and of the first m parts
pub record IsPartCount (sys : SystemView) (budgets : List ℕ) (n q : ℕ) (jobs : List Job)
    (slots : List Bool) (run : List (Option ℕ)) (counts : Counts) : Type 0 where
  pub inner : is_leaf_at sys q ≡ false →
      AreCounts (server_tasks sys budgets (Part q)) (server_jobs sys budgets (Part q) n) slots run
      counts
  pub leaf : is_leaf_at sys q ≡ true → AreCounts (own_tasks_at sys q) jobs slots run counts

pub record ArePartCounts (sys : SystemView) (budgets : List ℕ) (n : ℕ) (jobs : List (List Job))
    (core_runs part_runs : List (List (Option ℕ))) (m : ℕ) (counts : List Counts)
    : Type 0 where
  pub long : length counts ≡ m
  pub each : (q : ℕ) → q < m → IsPartCount sys budgets n q (slice_index_or jobs q [])
      (supply_of sys budgets n core_runs part_runs q) (run_at part_runs q) (counts_at counts q)
