-- The runs of a tree have one list of counts.
use Rattle.std.proofs.Common.{◌≡◌, ℕ, ◌<◌, Bool, List, length, Option, Some, None, refl, sym, ◌∙◌, ap, arith, inl, inr}
use Rattle.std.proofs.lemmas.Bool.{cases_Bool}
use Rattle.std.proofs.lemmas.List.{ext_get_or}
use Rattle.slot_model.specs.declared.job.Job.{Job}
use Rattle.slot_model.specs.declared.miss.Miss.{Miss}
use Rattle.slot_model.specs.Task.{SporadicTask}
use Rattle.slot_model.specs.Miss.{IsFirstMiss}
use Rattle.span_counts.specs.declared.counts.Counts.{Counts}
use Rattle.span_counts.specs.Counts.{AreCounts}
use Rattle.tree_model.specs.View.{SystemView}
use Rattle.tree_model.specs.System.{is_leaf_at}
use Rattle.tree_spans.specs.TreeCounts.{CountsView, no_counts, counts_at, AreTreeCounts}
use Rattle.miss_witness.proofs.OneReplay.{one_miss}

abbrev counts_from : ℕ → ℕ → ℕ → Option Miss → Counts
counts_from given released missed first = record { given = given; released = released; missed = missed; first = first }

abbrev view_from : List Counts → List Counts → CountsView
view_from cores parts = record { cores = cores; parts = parts }

-- records of the same fields
same_counts : (g h r s m n : ℕ) (f e : Option Miss) → g ≡ h → r ≡ s → m ≡ n → f ≡ e
    → counts_from g r m f ≡ counts_from h s n e
same_counts g h r s m n f e given released missed first = rw (given, released, missed, first) refl

same_view : (a b c d : List Counts) → a ≡ b → c ≡ d → view_from a c ≡ view_from b d
same_view a b c d cores parts = rw (cores, parts) refl

one_first : (tasks : List SporadicTask) (jobs : List Job) (run : List (Option ℕ)) (a b : Option Miss)
    → IsFirstMiss tasks jobs run a → IsFirstMiss tasks jobs run b → a ≡ b
one_first tasks jobs run None None p q = refl
one_first tasks jobs run None (Some b) p q = absurd (p q.0 q.1.missed)
one_first tasks jobs run (Some a) None p q = absurd (q p.0 p.1.missed)
one_first tasks jobs run (Some a) (Some b) p q = ap (λ (m : Miss). Some m) (one_miss tasks jobs run a b p q)

one_level : (tasks : List SporadicTask) (jobs : List Job) (slots : List Bool) (run : List (Option ℕ)) (a b : Counts)
    → AreCounts tasks jobs slots run a → AreCounts tasks jobs slots run b → a ≡ b
one_level tasks jobs slots run a b p q =
    same_counts a.given b.given a.released b.released a.missed b.missed a.first b.first (p.given ∙ sym q.given)
    (p.released ∙ sym q.released) (p.missed ∙ sym q.missed) (one_first tasks jobs run a.first b.first p.first q.first)

one_part : (sys : SystemView) (budgets : List ℕ) (n : ℕ) (supplies : List (List Bool)) (jobs : List (List Job))
    (core_runs part_runs : List (List (Option ℕ))) (a b : CountsView)
    → AreTreeCounts sys budgets n supplies jobs core_runs part_runs a
    → AreTreeCounts sys budgets n supplies jobs core_runs part_runs b → (q : ℕ) → q < length sys.parts
    → counts_at a.parts q ≡ counts_at b.parts q
one_part sys budgets n supplies jobs core_runs part_runs a b h k q l = elim (cases_Bool (is_leaf_at sys q)) [
  | inl leaf ↦ one_level _ _ _ _ (counts_at a.parts q) (counts_at b.parts q) (h.leaves q l leaf) (k.leaves q l leaf)
  | inr inner ↦ one_level _ _ _ _ (counts_at a.parts q) (counts_at b.parts q) (h.inner q l inner) (k.inner q l inner)
]

pub one_counts : (sys : SystemView) (budgets : List ℕ) (n : ℕ) (supplies : List (List Bool)) (jobs : List (List Job))
    (core_runs part_runs : List (List (Option ℕ))) (a b : CountsView)
    → AreTreeCounts sys budgets n supplies jobs core_runs part_runs a
    → AreTreeCounts sys budgets n supplies jobs core_runs part_runs b → a ≡ b
one_counts sys budgets n supplies jobs core_runs part_runs a b h k =
    same_view a.cores b.cores a.parts b.parts
    (ext_get_or no_counts a.cores b.cores (h.each_core ∙ sym k.each_core)
    (λ c l. one_level _ _ _ _ (counts_at a.cores c) (counts_at b.cores c) (h.cores c (omega (arith, h.each_core)))
    (k.cores c (omega (arith, h.each_core)))))
    (ext_get_or no_counts a.parts b.parts (h.each_part ∙ sym k.each_part)
    (λ q l. one_part sys budgets n supplies jobs core_runs part_runs a b h k q (omega (arith, h.each_part))))
