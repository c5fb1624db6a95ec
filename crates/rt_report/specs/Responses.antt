-- The text of the responses: the verdict, and a line a task that has a greatest response.
use Rattle.std.specs.Prelude.{ℕ, List, [], ◌∷◌, ◌++◌, codes, Option, Some, None}
use Rattle.std.specs.Fmt.{decimal}
use Rattle.tree_model.specs.View.{SystemView}
use Rattle.tree_model.specs.System.{part_at}
use Rattle.rt_report.specs.Words.{joined, task_name}
use Rattle.rt_report.specs.declared.responses.Response.{Response}

-- the name of part q; nothing past the end
abbrev pub part_name : SystemView → ℕ → List ℕ
part_name sys q = (part_at sys q).name

-- the name of a task of part q; nothing past the end
abbrev pub task_name_at : SystemView → ℕ → ℕ → List ℕ
task_name_at sys q i = task_name (part_at sys q) i

-- what the replay shows, or `skipped`
abbrev pub replay_words : Option ℕ → List ℕ
replay_words None = codes "skipped\n"
replay_words (Some t) = decimal t ++ codes "\n"

-- `response PART TASK worst=T limit=L replay=T`
abbrev pub response_line : SystemView → Response → List ℕ
response_line sys row = joined (
    codes "response " ∷ part_name sys row.part
    ∷ codes " " ∷ task_name_at sys row.part row.task
    ∷ codes " worst=" ∷ decimal row.worst
    ∷ codes " limit=" ∷ decimal row.limit
    ∷ codes " replay=" ∷ replay_words row.replay ∷ [])

abbrev pub response_lines : SystemView → List Response → List ℕ
response_lines sys [] = []
response_lines sys (row ∷ later) = response_line sys row ++ response_lines sys later

abbrev pub responses_text : SystemView → List Response → List ℕ
responses_text sys rows = codes "verdict=yes\n" ++ response_lines sys rows
