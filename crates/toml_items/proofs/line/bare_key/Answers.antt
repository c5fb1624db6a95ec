use Rattle.std.proofs.Common.{sym, ◌∙◌}
use Rattle.toml_items.proofs.Lines.{simple_key-bare, bare_run}
use Rattle.toml_items.proofs.line.bare_key.Goals as goal

pub returns-clause-key : goal.returns-clause-key
returns-clause-key c =
    let bare = sym c.is_bare.ensures ∙ c.if-not-is_bare.false in
    rw c.split_bare.ensures.parts (simple_key-bare c.args.text.now (rw c.first.ensures at bare))

pub returns-clause-run : goal.returns-clause-run
returns-clause-run c =
    let bare = sym c.is_bare.ensures ∙ c.if-not-is_bare.false in
    bare_run c.args.text.now _ _ c.split_bare.ensures.parts (rw c.first.ensures at bare)
