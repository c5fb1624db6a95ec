-- The counts of a tree's runs tell whether a job of any node misses.
use Rattle.std.proofs.Common.{◌≡◌, ◌↔◌, ℕ, zero, suc, ◌<◌, ◌==◌, Bool, true, List, [], ◌∷◌, length, Option, refl, arith, eq-eqb, inl, inr}
use Rattle.std.proofs.lemmas.Bool.{cases_Bool, eqb-true, and_parts, and_from}
use Rattle.slot_model.specs.declared.job.Job.{Job}
use Rattle.span_counts.specs.declared.counts.Counts.{Counts}
use Rattle.tree_model.specs.View.{SystemView}
use Rattle.tree_model.specs.System.{is_leaf_at}
use Rattle.tree_spans.specs.TreeCounts.{CountsView, counts_at, none_missed, no_node_misses, AreTreeCounts, NoneMisses}

none_at : (counts : List Counts) → none_missed counts ≡ true → (i : ℕ) → i < length counts
    → (counts_at counts i).missed ≡ 0
none_at [] e i l = absurd (omega arith)
none_at (c ∷ later) e zero l = eqb-true c.missed 0 (and_parts (c.missed == 0) (none_missed later) e).0
none_at (c ∷ later) e (suc i) l = none_at later (and_parts (c.missed == 0) (none_missed later) e).1 i (omega arith)

all_none : (counts : List Counts) → ((i : ℕ) → i < length counts → (counts_at counts i).missed ≡ 0)
    → none_missed counts ≡ true
all_none [] h = refl
all_none (c ∷ later) h =
    and_from (c.missed == 0) (none_missed later) (eq-eqb c.missed 0 (h 0 (omega arith)))
    (all_none later (λ i l. h (suc i) (omega arith)))

none_counted : (sys : SystemView) (budgets : List ℕ) (n : ℕ) (supplies : List (List Bool)) (jobs : List (List Job))
    (core_runs part_runs : List (List (Option ℕ))) (counts : CountsView)
    → AreTreeCounts sys budgets n supplies jobs core_runs part_runs counts → no_node_misses counts ≡ true
    → NoneMisses sys budgets n jobs core_runs part_runs
none_counted sys budgets n supplies jobs core_runs part_runs counts h k =
    let both = and_parts (none_missed counts.cores) (none_missed counts.parts) k in
    record {
      cores = λ c l. (h.cores c l).none.0 (none_at counts.cores both.0 c (omega (arith, h.each_core)));
      inner = λ q l i. (h.inner q l i).none.0 (none_at counts.parts both.1 q (omega (arith, h.each_part)));
      leaves = λ q l i. (h.leaves q l i).none.0 (none_at counts.parts both.1 q (omega (arith, h.each_part)));
    }

part_kept : (sys : SystemView) (budgets : List ℕ) (n : ℕ) (supplies : List (List Bool)) (jobs : List (List Job))
    (core_runs part_runs : List (List (Option ℕ))) (counts : CountsView)
    → AreTreeCounts sys budgets n supplies jobs core_runs part_runs counts
    → NoneMisses sys budgets n jobs core_runs part_runs → (q : ℕ) → q < length sys.parts
    → (counts_at counts.parts q).missed ≡ 0
part_kept sys budgets n supplies jobs core_runs part_runs counts h k q l =
    elim (cases_Bool (is_leaf_at sys q)) [
      | inl leaf ↦
          (h.leaves q l leaf).none.1 (k.leaves q l leaf)
      | inr inner ↦ (h.inner q l inner).none.1 (k.inner q l inner)
    ]

counts_none : (sys : SystemView) (budgets : List ℕ) (n : ℕ) (supplies : List (List Bool)) (jobs : List (List Job))
    (core_runs part_runs : List (List (Option ℕ))) (counts : CountsView)
    → AreTreeCounts sys budgets n supplies jobs core_runs part_runs counts
    → NoneMisses sys budgets n jobs core_runs part_runs → no_node_misses counts ≡ true
counts_none sys budgets n supplies jobs core_runs part_runs counts h k =
    and_from (none_missed counts.cores) (none_missed counts.parts) (all_none counts.cores
    (λ c l. (h.cores c (omega (arith, h.each_core))).none.1 (k.cores c (omega (arith, h.each_core)))))
    (all_none counts.parts
    (λ q l. part_kept sys budgets n supplies jobs core_runs part_runs counts h k q (omega (arith, h.each_part))))

-- no node's counts have a miss exactly where no job misses
pub kept_exactly : (sys : SystemView) (budgets : List ℕ) (n : ℕ) (supplies : List (List Bool)) (jobs : List (List Job))
    (core_runs part_runs : List (List (Option ℕ))) (counts : CountsView)
    → AreTreeCounts sys budgets n supplies jobs core_runs part_runs counts
    → (no_node_misses counts ≡ true) ↔ NoneMisses sys budgets n jobs core_runs part_runs
kept_exactly sys budgets n supplies jobs core_runs part_runs counts h = (
  none_counted sys budgets n supplies jobs core_runs part_runs counts h,
  counts_none sys budgets n supplies jobs core_runs part_runs counts h,
)
