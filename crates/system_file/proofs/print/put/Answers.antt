use Rattle.std.proofs.Common.{ap, ◌∙◌}
use Rattle.toml.specs.View.{view, table_view, members_view}
use Rattle.toml_items.specs.Plain.{insert_member}
use Rattle.system_file.proofs.PrintedPut.{inserted_view}
use Rattle.system_file.proofs.print.put.Goals as goal

pub returns : goal.returns
returns c =
    ap members_view c.in_ok-insert.ensures.entries
    ∙ inserted_view c.args.table.now.entries c.in_ok-from_str.field-0 c.args.value
    ∙ ap (λ name. insert_member name (view c.args.value) (table_view c.args.table.now)) c.in_ok-from_str.ensures.ok
