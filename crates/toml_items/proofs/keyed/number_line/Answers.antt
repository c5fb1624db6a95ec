use Rattle.std.proofs.Common.{◌≡◌, false, sym, ◌∙◌, arith}
use Rattle.std.proofs.lemmas.Bool.Decides.{nat_tests}
use Rattle.toml_parser.specs.Lexical.{first, is_ws}
use Rattle.toml_items.proofs.Lines.{line-spaced, val-word}
use Rattle.toml_items.proofs.keyed.number_line.Goals as goal

pub returns-clause-line : goal.returns-clause-line
returns-clause-line c =
    let value = c.in_ok-value.value.now in
    let number = c.in_ok-number.ensures in
    let ends = sym c.ends_here.ensures ∙ c.if-not-ends_here.false in
    let stop : is_ws (first value) ≡ false = grind (arith, nat_tests, number.word) in
    line-spaced c.args.text.now c.args.key.now value _ _ c.in_ok-value.ensures c.requires stop
    (val-word value _ _ number.word number.number) ends
