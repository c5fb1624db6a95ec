use Rattle.std.proofs.Common.{◌≡◌, ◌∙◌, Some, drop, length, refl, sym, ap, arith, List, ℕ}
use Rattle.std.proofs.lemmas.Slice.Eq.{strip_prefix_is}
use Rattle.std.proofs.lemmas.Bool.Decides.{Decides-eqb}
use Rattle.cert_reader.proofs.Standing.{word_stands}
use Rattle.cert_reader.proofs.numerals.behind_word.Goals as goal

pub returns : goal.returns
returns c =
    let here : List ℕ = c.split_at.result.1.now in
    let same : here ≡ drop c.args.at c.args.bytes.now = c.split_at.ensures.back in
    let rest : List ℕ = c.in_ok-rest.rest.now in
    let cases = c.in_ok-rest.ensures.cases in
    word_stands c.args.bytes.now c.args.at _ c.args.word.now rest (omega (arith, c.if-at-bytes.false))
    (cases.1 ∙ ap (λ (s : List ℕ). drop (length c.args.word.now) s) same)
    (sym same ∙ strip_prefix_is Decides-eqb here c.args.word.now (Some c.in_ok-rest.rest) cases)
    (omega (arith, cases.2, c.split_at.ensures.back_len)) refl
