use Rattle.toml_items.specs.Item.{entries_view}
use Rattle.system_file.proofs.at_front.core_at.Goals as goal

pub returns : goal.returns
returns c =
    let found = c.in-Some.found in
    let ok = rw c.deref.ensures.value at c.in_ok-core.ensures.ok in
    record {
      members = entries_view found.entries.items;
      reads = rw c.in-Some.is at c.in_ok-found.ensures.reads;
      ok = λ earlier many have. rw many (ok earlier have);
    }
