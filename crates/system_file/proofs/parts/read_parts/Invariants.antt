use Rattle.std.proofs.Common.{◌≡◌, ◌+◌, List, [], map, length}
use Rattle.toml.specs.Data.{Data}
use Rattle.toml_items.specs.Item.{item_view}
use Rattle.system_file.specs.Faults.{part_faults, in_order}
use Rattle.system_file.specs.inner.Reading.{HaveNames, Known}
use Rattle.system_file.proofs.Along.{before, from}
use Rattle.system_file.proofs.parts.read_parts.Given as goal

abbrev pub invariant-loop-value : goal.invariant-loop-value
invariant-loop-value l =
    (length l.parts.items ≡ l.value-index)
    × (length l.names ≡ l.cores + l.value-index)
    × ((core_elements : List Data) → length core_elements ≡ l.cores → HaveNames core_elements l.fn.names →
    Known core_elements (before l.values l.value-index) (from l.values l.value-index) l.cores l.names l.parts.items
    × (in_order (part_faults l.format core_elements) [] (map item_view l.values)
    ≡ in_order (part_faults l.format core_elements) (before l.values l.value-index)
    (from l.values l.value-index)))
