use Rattle.std.proofs.Common.{◌≡◌, ◌++◌, ◌<◌, ◌^◌, ◌==◌, false, List, ℕ, decimal, arith}
use Rattle.toml_parser.specs.Lexical.{first, is_word}
use Rattle.toml_items.proofs.Numbers.{unquoted-digits}
use Rattle.toml_items.proofs.number.whole_number.Goals as goal

pub returns-clause-number : goal.returns-clause-number
returns-clause-number c =
    let text : List ℕ = c.args.text.now in
    let rest : List ℕ = c.skip-rest.result.now in
    let number : ℕ = c.leading_digits-number.result.0 in
    let small : number < 2 ^ 63 = omega (arith, c.leading_digits-number.ensures.small) in
    let is : text ≡ decimal number ++ rest
    = rw (c.skip-rest.ensures.rest, ← c.as_bytes.ensures.value) c.leading_digits-number.ensures.number in
    let stop = c.if-goes_on.false in
    let word : is_word (first rest) ≡ false = rw c.first.ensures at (c.goes_on.ensures.word stop) in
    let space : (first rest == 32) ≡ false = rw c.first.ensures at (c.goes_on.ensures.space stop) in
    unquoted-digits text rest number is small word space
