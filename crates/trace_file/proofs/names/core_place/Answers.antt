use Rattle.std.proofs.Common.{refl}
use Rattle.trace_file.proofs.Distinct.{core_found}
use Rattle.trace_file.proofs.names.core_place.Goals as goal

pub returns-then-is_core_at : goal.returns-then-is_core_at
returns-then-is_core_at c =
    let (within, name) = (rw c.cores.ensures.cores at c.if-is_core_at.ensures) refl in
    core_found c.args.sys.now c.core_beneath-beneath.result c.args.name.now c.cores.ensures.system.names within name
