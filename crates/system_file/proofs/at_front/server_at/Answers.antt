use Rattle.toml_items.specs.Item.{entries_view}
use Rattle.system_file.proofs.at_front.server_at.Goals as goal

pub returns-clause-read : goal.returns-clause-read
returns-clause-read c path =
    let found = c.in-Some.found in
    record {
      whole = record {
        members = entries_view found.entries.items;
        reads = (rw c.in-Some.is at c.in_ok-found.ensures.reads) path;
        ok = rw c.deref-2.ensures.value at c.in_ok-part.ensures.ok;
      };
      no_task = rw c.deref.ensures.value at (c.is_left_out.ensures c.if-not-is_left_out.false);
    }
