use Rattle.std.proofs.Common.{◌<◌, ◌^◌, ℕ, pos, arith}
use Rattle.std.proofs.lemmas.Int.{to_z_pos}
use Rattle.std.specs.Int.{w64}
use Rattle.toml_items.proofs.Items.{item_view-Number}
use Rattle.toml_items.proofs.Lines.{val-word}
use Rattle.toml_items.proofs.line.word_at.Goals as goal

pub returns-in-Some-clause-value : goal.returns-in-Some-clause-value
returns-in-Some-clause-value c =
    let number : ℕ = c.in-Some.number in
    let small : number < 2 ^ 63 = omega (arith, c.in-Some.ensures.small) in
    rw (to_z_pos w64 number small, item_view-Number (pos number))
    (val-word c.args.text.now _ _ c.requires.word c.in-Some.ensures.number)

pub returns-in_ok-scalar_item-in-Ok-clause-value : goal.returns-in_ok-scalar_item-in-Ok-clause-value
returns-in_ok-scalar_item-in-Ok-clause-value c =
    rw c.in_ok-scalar_item-in-Ok.ensures (val-word c.args.text.now _ _ c.requires.word c.in-Ok.ensures.value)
