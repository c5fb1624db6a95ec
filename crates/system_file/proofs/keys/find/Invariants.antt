use Rattle.std.proofs.Common.{◌≡◌, drop}
use Rattle.toml.specs.Data.{get_member}
use Rattle.toml_items.specs.Item.{entries_view}
use Rattle.system_file.proofs.keys.find.Given as goal

abbrev pub invariant-loop-name : goal.invariant-loop-name
invariant-loop-name l =
    get_member l.key (entries_view l.table)
    ≡ get_member l.key (entries_view (drop l.name-index l.table))
