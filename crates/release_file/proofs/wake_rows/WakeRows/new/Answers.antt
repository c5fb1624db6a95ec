use Rattle.std.proofs.Common.{◌∙◌, refl, ap}
use Rattle.tree_model.proofs.Distinct.{distinct_back}
use Rattle.tree_model.specs.System.{core_names, part_names}
use Rattle.release_file.proofs.WakesTaking.{none_behind}
use Rattle.release_file.proofs.wake_rows.WakeRows.new.Goals as goal

pub part_places-requires : goal.part_places-requires
part_places-requires c =
    rw (c.parts.ensures.parts)
    (distinct_back (core_names c.args.sys.now.cores) (part_names c.args.sys.now.parts) c.parts.ensures.system.names)

pub returns-clause-taken : goal.returns-clause-taken
returns-clause-taken c =
    record {
      system = c.parts.ensures.system;
      sys = refl;
      parts = c.in-Ok.ensures ∙ ap part_names c.parts.ensures.parts;
      wakes = c.new.ensures.items;
      behind = none_behind _ 512 _ c.new.ensures.items refl refl refl;
    }
