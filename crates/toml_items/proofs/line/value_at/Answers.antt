use Rattle.std.proofs.Common.{sym, ◌∙◌}
use Rattle.toml_items.proofs.Items.{item_view-Text}
use Rattle.toml_items.proofs.Lines.{val-text}
use Rattle.toml_items.proofs.line.value_at.Goals as goal

pub returns-in_ok-content-clause-value : goal.returns-in_ok-content-clause-value
returns-in_ok-content-clause-value c =
    let quote = sym c.first-byte.ensures ∙ c.if-byte-eq34.true in
    rw (item_view-Text c.in_ok-content.content) (val-text c.args.text.now _ _ quote c.in_ok-content.ensures.value)
