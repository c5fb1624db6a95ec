use Rattle.tree_model.specs.System.{core_names, part_names}
use Rattle.trace_file.proofs.names.Names.new.Goals as goal
use Rattle.tree_model.proofs.Distinct.{distinct_back}

pub part_places-requires : goal.part_places-requires
part_places-requires c =
    rw (c.parts.ensures.parts)
    (distinct_back (core_names c.args.sys.now.cores) (part_names c.args.sys.now.parts) c.parts.ensures.system.names)
