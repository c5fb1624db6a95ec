use Rattle.std.proofs.Common.{◌<◌, length, sym, ◌∙◌, arith}
use Rattle.std.proofs.lemmas.Bool.Decides.{nat_tests}
use Rattle.toml_items.proofs.Lines.{quoted-plain}
use Rattle.toml_items.proofs.line.plain_text.Goals as goal

pub returns-clause-value : goal.returns-clause-value
returns-clause-value c =
    let some : 0 < length c.split_plain.result.0.now = grind (arith, nat_tests) in
    rw c.skip-2.ensures.rest (quoted-plain c.args.text.now _ _ c.requires.quote
    (rw c.skip.ensures.rest at c.split_plain.ensures.parts) some (sym c.first.ensures ∙ c.if-first-ne34.false))
