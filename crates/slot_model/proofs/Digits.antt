-- The text of a number is digits.
use Rattle.std.proofs.Common.{◌≡◌, ◌<◌, ◌+◌, ◌%◌, ◌^◌, ℕ, true, ◌&&◌, Bool, [], ◌∷◌, ◌∙◌, ap, arith}
use Rattle.std.specs.Prelude.{decimal}
use Rattle.std.specs.Char.{is_ascii_digit}
use Rattle.std.specs.List.{list_all}
use Rattle.std.proofs.lemmas.Fmt.{decimal_by_steps_wide}
use Rattle.std.proofs.lemmas.List.Folds.{list_all-append}

digit : (d : ℕ) → d < 10 → is_ascii_digit (48 + d) ≡ true
digit d l = grind arith

pub decimal_digits : (n : ℕ) → n < 2 ^ 128 → list_all is_ascii_digit (decimal n) ≡ true
decimal_digits n l = decimal_by_steps_wide (λ m ds. list_all is_ascii_digit ds ≡ true)
    (λ d l. ap (λ (b : Bool). b && true) (digit d l))
    (λ m ds l all. list_all-append is_ascii_digit ds ((48 + m % 10) ∷ [])
    ∙ (ap (λ (b : Bool). b && list_all is_ascii_digit ((48 + m % 10) ∷ [])) all
    ∙ ap (λ (b : Bool). true && (b && true)) (digit (m % 10) (omega arith))))
    n (omega arith)
