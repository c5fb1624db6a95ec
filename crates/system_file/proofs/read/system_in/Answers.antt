use Rattle.std.proofs.lemmas.Result.{IfOk-weaker, IfErr-weaker}
use Rattle.toml.specs.Data.{table}
use Rattle.toml_items.specs.Item.{entries_view}
use Rattle.system_file.proofs.read.system_in.Goals as goal

pub returns-clause-ok : goal.returns-clause-ok
returns-clause-ok c =
    IfOk-weaker c.whole_system.result _ _
    (λ sys ok. ok (table (entries_view c.args.table.now)) c.in_ok-nodes.ensures.ok) c.whole_system.ensures.ok

pub returns-clause-fault : goal.returns-clause-fault
returns-clause-fault c =
    IfErr-weaker c.whole_system.result _ _
    (λ fault wrong memory. wrong memory (table (entries_view c.args.table.now)) c.in_ok-nodes.ensures.ok)
    c.whole_system.ensures.fault
