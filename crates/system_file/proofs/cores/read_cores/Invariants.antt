use Rattle.std.proofs.Common.{◌≡◌, [], map}
use Rattle.toml_items.specs.Item.{item_view}
use Rattle.system_file.specs.Document.{spelled_core}
use Rattle.system_file.specs.Faults.{core_faults, in_order}
use Rattle.system_file.specs.inner.Reading.{HaveNames}
use Rattle.system_file.proofs.Along.{before, from}
use Rattle.system_file.proofs.cores.read_cores.Given as goal

abbrev pub invariant-loop-place : goal.invariant-loop-place
invariant-loop-place l =
    (l.cores.items ≡ map spelled_core (before l.values l.place))
    × HaveNames (before l.values l.place) l.names
    × (in_order core_faults [] (map item_view l.values)
    ≡ in_order core_faults (before l.values l.place) (from l.values l.place))
