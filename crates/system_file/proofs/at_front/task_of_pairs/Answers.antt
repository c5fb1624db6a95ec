use Rattle.toml_items.specs.Item.{entries_view}
use Rattle.system_file.proofs.at_front.task_of_pairs.Goals as goal

pub returns : goal.returns
returns c path part place here =
    let ok = rw (c.deref.ensures.value, here) at c.in_ok-task.ensures.ok in
    record {
      members = entries_view c.pairs_into.new.entries.items;
      reads = (rw c.in-Some.is at c.in_ok-rest.ensures.reads) path;
      ok = λ earlier many have. rw many (ok earlier have);
    }
