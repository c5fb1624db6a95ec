use Rattle.std.proofs.Common.{sym, ◌∙◌}
use Rattle.toml_items.proofs.Lines.{line-pair}
use Rattle.toml_items.proofs.line.pair_at.Goals as goal

pub returns-clause-line : goal.returns-clause-line
returns-clause-line c =
    let ends = sym c.ends_here.ensures ∙ c.if-not-ends_here.false in
    line-pair c.args.text.now _ _ _ _ c.in_ok-key.ensures.bare c.in_ok-key.ensures.key c.in_ok-item.ensures.value ends
