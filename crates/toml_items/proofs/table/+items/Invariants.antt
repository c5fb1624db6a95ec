use Rattle.std.proofs.Common.{◌≡◌, take, map}
use Rattle.std.specs.Map.Iter.{deref_pair}
use Rattle.toml.specs.View.{items_view, members_view}
use Rattle.toml_items.specs.Item.{list_view, entries_view}
use Rattle.toml_items.proofs.table.+items.Given as goal

abbrev pub invariant-array_items-loop-value : goal.invariant-array_items-loop-value
invariant-array_items-loop-value l =
    list_view l.items.items ≡ items_view (take l.value-index l.values)

abbrev pub invariant-table_entries-loop-key : goal.invariant-table_entries-loop-key
invariant-table_entries-loop-key l =
    entries_view l.entries.items ≡ members_view (map deref_pair l.yielded)
