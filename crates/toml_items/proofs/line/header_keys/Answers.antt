use Rattle.std.proofs.Common.{sym, ◌∙◌}
use Rattle.toml_items.proofs.Lines.{header_front}
use Rattle.toml_items.proofs.line.header_keys.Goals as goal

pub returns-clause-text : goal.returns-clause-text
returns-clause-text c =
    let keys = c.in_ok-keys.keys in
    header_front keys.parent keys.key.now c.args.text.now keys.rest.now _
    (sym c.first.ensures ∙ c.if-first-ne91.false) (sym c.byte_at.ensures ∙ c.if-byte_at-ne91.false)
    (rw c.skip.ensures.rest at c.in_ok-keys.ensures.text)
    (sym c.first-2.ensures ∙ c.if-first-ne93.false) (sym c.byte_at-else-first-ne93.ensures ∙ c.if-byte_at-ne93.false)
    c.skip-2.ensures.rest
