use Rattle.std.proofs.Common.{◌≡◌, map, take}
use Rattle.toml.specs.View.{view}
use Rattle.system_file.specs.Printed.{printed_task}
use Rattle.system_file.specs.inner.Named.{TasksAreNamed}
use Rattle.system_file.proofs.print.task_tables.Given as goal

abbrev pub invariant-loop-task : goal.invariant-loop-task
invariant-loop-task l =
    (map view l.tables.items ≡ map printed_task (take l.task-index l.tasks)) × TasksAreNamed (take l.task-index l.tasks)
