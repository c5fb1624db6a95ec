use Rattle.std.proofs.Common.{◌≡◌, ◌++◌, length, map}
use Rattle.std.specs.Prelude.{option_map}
use Rattle.script_file.specs.Pieces.{pieces}
use Rattle.script_file.specs.Script.{all_there, task_in}
use Rattle.script_file.proofs.task_spelling.spell_some.Given as goal

-- the tasks so far, and those to come
abbrev pub invariant-tasks : goal.invariant-tasks
invariant-tasks l =
    all_there (map task_in (pieces 59 l.list))
    ≡ option_map (λ later. l.tasks.items ++ later) (all_there (map task_in (pieces 59 l.left)))

abbrev pub decreases-tasks : goal.decreases-tasks
decreases-tasks l = length l.left
