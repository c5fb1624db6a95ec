use Rattle.std.proofs.Common.{Some, sym, ap, ◌∙◌}
use Rattle.toml_items.specs.declared.document.Document.{Document}
use Rattle.toml_items.specs.Document.{members_in}
use Rattle.toml_items.specs.Item.{entries_view}
use Rattle.system_file.proofs.Texts.{document_refused}
use Rattle.system_file.proofs.read.read_items.Goals as goal

pub returns-in-Ok-Entries-clause-fault : goal.returns-in-Ok-Entries-clause-fault
returns-in-Ok-Entries-clause-fault c =
    document_refused c.system_in.result (entries_view c.deref.result.now) _
    (c.in-Ok-Entries.ensures.document
    ∙ ap (λ (d : Document). Some (members_in d)) c.in-Ok-Entries.field-0-is
    ∙ ap Some (ap entries_view (sym c.deref.ensures.value)))
    c.system_in.ensures.fault

pub returns-in_ok-entries-in-Ok-Table-clause-fault :
    goal.returns-in_ok-entries-in-Ok-Table-clause-fault
returns-in_ok-entries-in-Ok-Table-clause-fault c =
    document_refused c.system_in-in-Ok-Table.result (entries_view c.deref-in-Ok-Table.result.now) _
    (c.in-Ok-Table.ensures.document
    ∙ ap (λ (d : Document). Some (members_in d)) c.in-Ok-Table.field-0-is
    ∙ ap Some (sym c.in_ok-entries-in-Ok-Table.ensures
    ∙ ap entries_view (sym c.deref-in-Ok-Table.ensures.value)))
    c.system_in-in-Ok-Table.ensures.fault
