-- What is counted of runs that stand slot by slot, one node after the other.
use Rattle.std.proofs.Common.{◌≡◌, ℕ, ◌+◌, ◌<◌, Bool, List, [], ◌∷◌, ◌++◌, length, get_or, Option, refl, sym, ◌∙◌, arith, subst, inl, inr}
use Rattle.std.proofs.lemmas.Bool.{cases_eq}
use Rattle.std.proofs.lemmas.List.{get_or_append_left, get_or_push, length_push}
use Rattle.slot_model.specs.declared.job.Job.{Job}
use Rattle.slot_model.specs.Task.{SporadicTask}
use Rattle.slot_model.specs.Run.{Level, guest, server, PermittedRun}
use Rattle.slot_model.specs.Miss.{HoldsReleased}
use Rattle.slot_model.proofs.MissedJobs.{permitted_holds_released}
use Rattle.tree_model.specs.declared.place.Parent.{Parent}
use Rattle.tree_model.specs.declared.place.Parent.TheVariants.{Core as on_core, Part as on_part}
use Rattle.tree_model.specs.declared.place.Place.{Place}
use Rattle.tree_model.specs.declared.place.Place.TheVariants.{Core}
use Rattle.tree_model.specs.View.{SystemView}
use Rattle.tree_model.specs.System.{IsSystem, Stands, part_at}
use Rattle.tree_model.specs.Tree.{IsNode, place_of, node_tasks, server_tasks, server_jobs, run_at, run_of, supply_of, PermittedTree}
use Rattle.tree_model.proofs.NodeTasks.{inner_tasks}
use Rattle.span_counts.specs.declared.counts.Counts.{Counts}
use Rattle.span_counts.specs.Counts.{AreCounts}
use Rattle.tree_spans.specs.TreeCounts.{no_counts, AreTreeCounts}
use Rattle.tree_spans.specs.TreeSpans.{parent_of}
use Rattle.server_sched.specs.Shapes.{RunHolds, TreeHolds}
use Rattle.server_sched.specs.inner.SlotCounts.{OfTree, ParentHolds, HasRun, AreCoreCounts, IsPartCount, ArePartCounts}

-- the parent of a part is a node of servers, which has its run
pub record IsParent (sys : SystemView) (budgets : List ℕ) (core_runs part_runs : List (List (Option ℕ))) (node : Place)
    : Type 0 where
  pub is : IsNode sys node
  pub servers : node_tasks sys budgets node ≡ server_tasks sys budgets node
  pub run : HasRun core_runs part_runs node

stands_parent : (sys : SystemView) (budgets : List ℕ) (core_runs part_runs : List (List (Option ℕ)))
    → length core_runs ≡ length sys.cores → length part_runs ≡ length sys.parts → (q : ℕ) → q < length sys.parts
    → (parent : Parent) → Stands sys q parent → IsParent sys budgets core_runs part_runs (place_of parent)
stands_parent sys budgets core_runs part_runs e f q l (on_core c) stands =
    record { is = stands; servers = refl; run = omega (arith, e, stands) }
stands_parent sys budgets core_runs part_runs e f q l (on_part r) stands =
    record
    { is = omega (arith, stands.0); servers = inner_tasks sys budgets r stands.1; run = omega (arith, f, stands.0) }

pub is_parent : (sys : SystemView) (budgets : List ℕ) (core_runs part_runs : List (List (Option ℕ))) → IsSystem sys
    → length core_runs ≡ length sys.cores → length part_runs ≡ length sys.parts → (q : ℕ) → q < length sys.parts
    → IsParent sys budgets core_runs part_runs (parent_of sys q)
is_parent sys budgets core_runs part_runs fits e f q l =
    stands_parent sys budgets core_runs part_runs e f q l (part_at sys q).parent (fits.parents q l)

-- whose run holds its servers' jobs
stands_holds : (sys : SystemView) (budgets : List ℕ) (n : ℕ) (supplies : List (List Bool)) (jobs : List (List Job))
    (core_runs part_runs : List (List (Option ℕ))) → TreeHolds sys budgets n supplies jobs core_runs part_runs → (q : ℕ)
    → q < length sys.parts → (parent : Parent) → Stands sys q parent
    → HoldsReleased (server_jobs sys budgets (place_of parent) n) (run_of core_runs part_runs (place_of parent))
stands_holds sys budgets n supplies jobs core_runs part_runs h q l (on_core c) stands = (h.cores c stands).released
stands_holds sys budgets n supplies jobs core_runs part_runs h q l (on_part r) stands =
    (h.inner r (omega (arith, stands.0)) stands.1).released

pub parent_holds : (sys : SystemView) (budgets : List ℕ) (n : ℕ) (jobs : List (List Job))
    (core_runs part_runs : List (List (Option ℕ))) → IsSystem sys → OfTree sys budgets n jobs core_runs part_runs
    → (q : ℕ) → q < length sys.parts → ParentHolds sys budgets n q core_runs part_runs
parent_holds sys budgets n jobs core_runs part_runs fits h q l =
    stands_holds sys budgets n h.supplies jobs core_runs part_runs h.holds q l (part_at sys q).parent (fits.parents q l)

-- a permitted run of the tree has its shape and holds jobs that are released
permitted_holds : (level : Level) (before : Job → Job → Bool) (tasks : List SporadicTask) (jobs : List Job)
    (slots : List Bool) (run : List (Option ℕ)) → PermittedRun level before tasks jobs slots run
    → RunHolds jobs slots run
permitted_holds level before tasks jobs slots run h =
    record { long = h.same_length; released = permitted_holds_released level before tasks jobs slots run h }

pub permitted_tree_holds : (sys : SystemView) (budgets : List ℕ) (n : ℕ) (supplies : List (List Bool))
    (jobs : List (List Job)) (core_runs part_runs : List (List (Option ℕ)))
    → PermittedTree sys budgets n supplies jobs core_runs part_runs
    → TreeHolds sys budgets n supplies jobs core_runs part_runs
permitted_tree_holds sys budgets n supplies jobs core_runs part_runs h = record {
  run_each_core = h.run_each_core;
  run_each_part = h.run_each_part;
  cores = λ c l. permitted_holds server _ _ _ _ _ (h.cores c l);
  inner = λ q l inner. permitted_holds server _ _ _ _ _ (h.inner q l inner);
  leaves = λ q l leaf. permitted_holds guest _ _ _ _ _ (h.leaves q l leaf);
}

-- one core more, and one part more
pub one_core_counted : (sys : SystemView) (budgets : List ℕ) (n : ℕ) (supplies : List (List Bool))
    (core_runs : List (List (Option ℕ))) (m : ℕ) (counts : List Counts)
    → AreCoreCounts sys budgets n supplies core_runs m counts → (new : Counts)
    → AreCounts (server_tasks sys budgets (Core m)) (server_jobs sys budgets (Core m) n) (get_or supplies m [])
    (run_at core_runs m) new → AreCoreCounts sys budgets n supplies core_runs (m + 1) (counts ++ new ∷ [])
one_core_counted sys budgets n supplies core_runs m counts h new counted =
    let Counted : ℕ → Counts → Type 0
    = λ c v. AreCounts (server_tasks sys budgets (Core c)) (server_jobs sys budgets (Core c) n)
    (get_or supplies c []) (run_at core_runs c) v in
    record {
      long = omega (arith, length_push counts new, h.long);
      each = λ c l. elim (cases_eq c m) [
        | inl now ↦
            subst (Counted c) (sym (get_or_push counts new no_counts c (h.long ∙ sym now)))
            (subst (λ (z : ℕ). Counted z new) (sym now) counted)
        | inr ne ↦
            subst (Counted c) (sym (get_or_append_left counts (new ∷ []) no_counts c (omega (arith, h.long))))
            (h.each c (omega arith))
      ];
    }

pub one_part_counted : (sys : SystemView) (budgets : List ℕ) (n : ℕ) (jobs : List (List Job))
    (core_runs part_runs : List (List (Option ℕ))) (m : ℕ) (counts : List Counts)
    → ArePartCounts sys budgets n jobs core_runs part_runs m counts → (new : Counts)
    → IsPartCount sys budgets n m (get_or jobs m []) (supply_of sys budgets n core_runs part_runs m)
    (run_at part_runs m) new → ArePartCounts sys budgets n jobs core_runs part_runs (m + 1) (counts ++ new ∷ [])
one_part_counted sys budgets n jobs core_runs part_runs m counts h new counted =
    let Counted : ℕ → Counts → Type 0
    = λ q v. IsPartCount sys budgets n q (get_or jobs q []) (supply_of sys budgets n core_runs part_runs q)
    (run_at part_runs q) v in
    record {
      long = omega (arith, length_push counts new, h.long);
      each = λ q l. elim (cases_eq q m) [
        | inl now ↦
            subst (Counted q) (sym (get_or_push counts new no_counts q (h.long ∙ sym now)))
            (subst (λ (z : ℕ). Counted z new) (sym now) counted)
        | inr ne ↦
            subst (Counted q) (sym (get_or_append_left counts (new ∷ []) no_counts q (omega (arith, h.long))))
            (h.each q (omega arith))
      ];
    }

-- the counts of the whole tree
pub all_counted : (sys : SystemView) (budgets : List ℕ) (n : ℕ) (supplies : List (List Bool)) (jobs : List (List Job))
    (core_runs part_runs : List (List (Option ℕ))) (cores parts : List Counts)
    → AreCoreCounts sys budgets n supplies core_runs (length sys.cores) cores
    → ArePartCounts sys budgets n jobs core_runs part_runs (length sys.parts) parts
    → AreTreeCounts sys budgets n supplies jobs core_runs part_runs (record { cores = cores; parts = parts })
all_counted sys budgets n supplies jobs core_runs part_runs cores parts h k = record {
  each_core = h.long;
  each_part = k.long;
  cores = h.each;
  inner = λ q l i. (k.each q l).inner i;
  leaves = λ q l i. (k.each q l).leaf i;
}
