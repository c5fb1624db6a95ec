use Rattle.std.proofs.Common.{◌≡◌, map, take}
use Rattle.toml.specs.View.{view}
use Rattle.system_file.specs.Printed.{printed_part}
use Rattle.system_file.specs.inner.Named.{PartsAreNamed}
use Rattle.system_file.proofs.print.part_tables.Given as goal

abbrev pub invariant-loop-part : goal.invariant-loop-part
invariant-loop-part l =
    (map view l.tables.items ≡ map (printed_part l.sys) (take l.part-index l.parts))
    × PartsAreNamed (take l.part-index l.parts)
