use Rattle.std.proofs.Common.{◌≡◌, ◌==◌, false, length, arith}
use Rattle.std.proofs.lemmas.Grind.{common_steps}
use Rattle.toml_parser.specs.Lexical.{first, skip_blank}
use Rattle.toml_items.specs.Item.{entries_view}
use Rattle.toml_items.proofs.Going.{whole_document}
use Rattle.toml_items.proofs.plain.plain_entries.Goals as goal

pub returns-then-is_end : goal.returns-then-is_end
returns-then-is_end c =
    let text = c.args.text.now in
    let top = c.in-Some.top in
    let other : (first text == 0xEF) ≡ false = grind (arith, common_steps) in
    let ended : length (skip_blank top.rest.now) ≡ 0 = grind (arith, common_steps) in
    whole_document text top.rest.now (entries_view top.entries.items) other
    (rw c.in-Some.is at c.in_ok-top.ensures.reads) ended
