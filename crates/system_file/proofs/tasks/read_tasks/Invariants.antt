use Rattle.std.proofs.Common.{◌≡◌, [], map}
use Rattle.toml_items.specs.Item.{item_view}
use Rattle.system_file.specs.Document.{spelled_task}
use Rattle.system_file.specs.Faults.{task_faults, in_order}
use Rattle.system_file.specs.inner.Reading.{HaveNames}
use Rattle.system_file.proofs.Along.{before, from}
use Rattle.system_file.proofs.tasks.read_tasks.Given as goal

abbrev pub invariant-loop-place : goal.invariant-loop-place
invariant-loop-place l =
    (l.tasks.items ≡ map spelled_task (before l.values l.place))
    × HaveNames (before l.values l.place) l.names
    × (in_order (task_faults l.format l.part) [] (map item_view l.values)
    ≡ in_order (task_faults l.format l.part) (before l.values l.place) (from l.values l.place))
