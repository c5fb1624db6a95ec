use Rattle.std.proofs.Common.{◌≡◌, false, sym, ◌∙◌, refl}
use Rattle.toml_parser.specs.Lexical.{first, is_ws}
use Rattle.toml_items.proofs.Lines.{line-spaced, val-text}
use Rattle.toml_items.proofs.keyed.text_line.Goals as goal

pub returns-clause-line : goal.returns-clause-line
returns-clause-line c =
    let value = c.in_ok-value.value.now in
    let quote = sym c.first.ensures ∙ c.if-first-ne34.false in
    let ends = sym c.ends_here.ensures ∙ c.if-not-ends_here.false in
    let stop : is_ws (first value) ≡ false = rw quote refl in
    line-spaced c.args.text.now c.args.key.now value _ _ c.in_ok-value.ensures c.requires stop
    (val-text value _ _ quote c.in_ok-content.ensures.value) ends
