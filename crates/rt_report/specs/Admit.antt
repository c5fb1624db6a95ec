-- The text of an admission: the verdict, then each part in file order, and below a computed leaf
-- what defeats the next smaller budget.
use Rattle.std.specs.Prelude.{ℕ, if◌then◌else◌, List, [], ◌∷◌, ◌++◌, drop, codes, Option, Some, None}
use Rattle.std.specs.Fmt.{decimal}
use Rattle.slot_model.specs.declared.miss.Miss.{Miss}
use Rattle.tree_model.specs.View.{PartView, SystemView}
use Rattle.tree_model.specs.System.{is_computed_leaf}
use Rattle.rt_report.specs.Words.{joined, task_name}
use Rattle.rt_report.specs.Missed.{missed_words}
use Rattle.miss_witness.specs.declared.replay.Replay.{Replay}

abbrev pub origin_word : Option ℕ → List ℕ
origin_word None = codes " computed\n"
origin_word (Some given) = codes " given\n"

-- `part NAME period=P budget=B given`, or `computed`
abbrev pub part_line : PartView → ℕ → List ℕ
part_line part budget = joined (
    codes "part " ∷ part.name
    ∷ codes " period=" ∷ decimal part.period
    ∷ codes " budget=" ∷ decimal budget ∷ origin_word part.budget ∷ [])

-- the first task that is short, and `-` under edf
abbrev pub short_task : PartView → Option ℕ → List ℕ
short_task part None = codes "-"
short_task part (Some i) = task_name part i

-- the first miss of the replay, or `skipped`
abbrev pub miss_words : PartView → Option Miss → List ℕ
miss_words part None = codes "skipped\n"
miss_words part (Some miss) = missed_words (task_name part miss.task) miss

-- `witness NAME budget=B start=S span=T task=TASK replay=..`
abbrev pub witness_line : PartView → Replay → List ℕ
witness_line part replay = joined (
    codes "witness " ∷ part.name
    ∷ codes " budget=" ∷ decimal replay.witness.budget
    ∷ codes " start=" ∷ decimal replay.witness.start
    ∷ codes " span=" ∷ decimal replay.witness.span
    ∷ codes " task=" ∷ short_task part replay.witness.task
    ∷ codes " replay=" ∷ miss_words part replay.miss ∷ [])

abbrev pub first_witness : PartView → List Replay → List ℕ
first_witness part [] = []
first_witness part (replay ∷ later) = witness_line part replay

-- the lines of these parts, with one budget a part and one replay a computed leaf, in file order
abbrev pub part_lines : List PartView → List ℕ → List Replay → List ℕ
part_lines [] budgets replays = []
part_lines (part ∷ parts) [] replays = []
part_lines (part ∷ parts) (budget ∷ budgets) replays =
    part_line part budget ++ (
    if is_computed_leaf part
    then (first_witness part replays ++ part_lines parts budgets (drop 1 replays))
    else part_lines parts budgets replays)

abbrev pub admit_text : SystemView → List ℕ → List Replay → List ℕ
admit_text sys budgets replays = codes "verdict=yes\n" ++ part_lines sys.parts budgets replays
