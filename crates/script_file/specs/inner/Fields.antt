-- The fields of a row and of a task.
use Rattle.std.specs.Prelude.{ℕ, List, [], ◌∷◌}
use Rattle.script_file.specs.declared.row_fields.RowFields.{RowFields}
use Rattle.script_file.specs.declared.task_spelling.TaskFields.{TaskFields}

-- the fields of a row and of a task
abbrev pub row_fields : RowFields → List (List ℕ)
row_fields f =
    f.op.now ∷ f.part.now ∷ f.parent.now ∷ f.sched.now
    ∷ f.period.now ∷ f.budget.now ∷ f.tasks.now ∷ []

abbrev pub task_fields : TaskFields → List (List ℕ)
task_fields f =
    f.name.now ∷ f.period.now ∷ f.deadline.now ∷ f.jitter.now ∷ f.work.now ∷ []
