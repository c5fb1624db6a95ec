use Rattle.std.proofs.Common.{ℕ, List, ◌+◌, ◌∷◌, [], decimal, arith, sym, ap, ◌∙◌, subst, ◌≡◌}
use Rattle.std.proofs.lemmas.Fmt.{decimal_digit}
use Rattle.cert_reader.specs.inner.Text.{Stands}
use Rattle.cert_reader.proofs.numerals.number_at.Goals as goal

pub returns-then-first-eq0 : goal.returns-then-first-eq0
returns-then-first-eq0 c =
    let zero : (48 + c.in_ok-first.first) ∷ [] ≡ decimal 0
    = ap (λ (d : ℕ). (48 + d) ∷ []) c.if-first-eq0.true ∙ sym (decimal_digit 0 (omega arith)) in
    subst (λ (s : List ℕ). Stands c.args.bytes.now c.args.at (c.args.at + 1) s) zero c.in_ok-first.ensures.text
