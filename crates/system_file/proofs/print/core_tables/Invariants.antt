use Rattle.std.proofs.Common.{◌≡◌, map, take}
use Rattle.toml.specs.View.{view}
use Rattle.system_file.specs.Printed.{printed_core}
use Rattle.system_file.specs.inner.Named.{CoresAreNamed}
use Rattle.system_file.proofs.print.core_tables.Given as goal

abbrev pub invariant-loop-core : goal.invariant-loop-core
invariant-loop-core l =
    (map view l.tables.items ≡ map printed_core (take l.core-index l.cores)) × CoresAreNamed (take l.core-index l.cores)
