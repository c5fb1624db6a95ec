-- The text of a simulation: the verdict, then what is counted of each core and of each part, and
-- below a node with a miss its first one.
use Rattle.std.specs.Prelude.{◌≡◌, ℕ, suc, Bool, if◌then◌else◌, List, [], ◌∷◌, ◌++◌, length, slice_index_or, codes, Option, Some, None}
use Rattle.std.specs.Fmt.{decimal}
use Rattle.slot_model.specs.declared.job.Job.{Job}
use Rattle.slot_model.specs.declared.miss.Miss.{Miss}
use Rattle.span_counts.specs.declared.counts.Counts.{Counts}
use Rattle.tree_model.specs.declared.place.Place.{Place}
use Rattle.tree_model.specs.declared.place.Place.TheVariants.{Core, Part}
use Rattle.tree_model.specs.View.{SystemView}
use Rattle.tree_spans.specs.TreeCounts.{CountsView, no_node_misses, AreTreeCounts}
use Rattle.rt_report.specs.Words.{joined, node_words, served_name}
use Rattle.rt_report.specs.Missed.{missed_words}

-- `first TASK release=R deadline=D got=G of=W`
abbrev pub first_line : SystemView → Place → Option Miss → List ℕ
first_line sys node None = []
first_line sys node (Some miss) =
    codes "first " ++ missed_words (served_name sys node miss.task) miss

-- `core NAME given=G jobs=J missed=M`, or `part`, and the first miss below it
abbrev pub counts_line : SystemView → Place → Counts → List ℕ
counts_line sys node counts = joined (
    node_words sys node ∷ codes " given=" ∷ decimal counts.given
    ∷ codes " jobs=" ∷ decimal counts.released
    ∷ codes " missed=" ∷ decimal counts.missed ∷ codes "\n"
    ∷ first_line sys node counts.first ∷ [])

-- the lines of cores, or of parts, from place k on
abbrev pub counts_lines : SystemView → (ℕ → Place) → ℕ → List Counts → List ℕ
counts_lines sys node k [] = []
counts_lines sys node k (counts ∷ later) =
    counts_line sys (node k) counts ++ counts_lines sys node (suc k) later

abbrev pub verdict_line : Bool → List ℕ
verdict_line keeps = if keeps then codes "verdict=yes\n" else codes "verdict=no\n"

abbrev pub simulate_text : SystemView → CountsView → List ℕ
simulate_text sys counts =
    verdict_line (no_node_misses counts) ++ counts_lines sys Core 0 counts.cores
    ++ counts_lines sys Part 0 counts.parts

-- how many slots these lists tell of the first core
abbrev pub slots_told : List (List Bool) → ℕ
slots_told supplies = length (slice_index_or supplies 0 [])

-- the text is that of what is counted of these runs
pub record IsTextOfRun (sys : SystemView) (budgets : List ℕ) (supplies : List (List Bool))
    (jobs : List (List Job)) (core_runs part_runs : List (List (Option ℕ))) (text : List ℕ)
    : Type 0 where
  pub counts : CountsView
  pub are : AreTreeCounts sys budgets (slots_told supplies) supplies jobs core_runs part_runs counts
  pub told : text ≡ simulate_text sys counts
