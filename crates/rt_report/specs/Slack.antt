-- The text of how far the work of each task of a leaf may grow: the verdict, and a line a task.
use Rattle.std.specs.Prelude.{ℕ, suc, List, [], ◌∷◌, ◌++◌, codes}
use Rattle.std.specs.Fmt.{decimal}
use Rattle.slot_model.specs.Task.{task_at}
use Rattle.tree_model.specs.View.{PartView}
use Rattle.tree_model.specs.System.{own_tasks}
use Rattle.rt_report.specs.Words.{joined, task_name}

-- `slack PART TASK work=W most=M`, for the task at place i
abbrev pub slack_line : PartView → ℕ → ℕ → List ℕ
slack_line part i most = joined (
    codes "slack " ∷ part.name
    ∷ codes " " ∷ task_name part i
    ∷ codes " work=" ∷ decimal (task_at (own_tasks part) i).work
    ∷ codes " most=" ∷ decimal most ∷ codes "\n" ∷ [])

-- the lines of the tasks from place i on
abbrev pub slack_lines : PartView → ℕ → List ℕ → List ℕ
slack_lines part i [] = []
slack_lines part i (most ∷ later) = slack_line part i most ++ slack_lines part (suc i) later

abbrev pub slack_text : PartView → List ℕ → List ℕ
slack_text part works = codes "verdict=yes\n" ++ slack_lines part 0 works
