use Rattle.std.proofs.Common.{arith}
use Rattle.toml_items.proofs.Items.{list_view-more, entries_view-more}
use Rattle.toml_items.proofs.table.+items.Goals as goal

pub array_items-loop-value-preserved : goal.array_items-loop-value-preserved
array_items-loop-value-preserved t c =
    rw c.in_ok-push.ensures.items
    (list_view-more _ c.in_ok-item.item c.args.values.now c.loop-value.value-index
    c.value-item.result (omega arith) c.value-item.is c.loop-value.invariant c.in_ok-item.ensures)

pub table_entries-loop-key-preserved : goal.table_entries-loop-key-preserved
table_entries-loop-key-preserved t c =
    rw c.in_ok-push.ensures.items
    (entries_view-more _ c.as_str.result c.in_ok-item.item c.loop-key.yielded
    (c.in-Some.key, c.in-Some.value) c.loop-key.invariant c.as_str.ensures.value c.in_ok-item.ensures)
