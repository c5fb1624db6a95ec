-- A number whose digits are written into a row of quotes.
use Rattle.std.proofs.Common.{◌≡◌, ℕ, suc, ◌-◌, ◌≤◌, List, ◌∷◌, ◌++◌, length, take, drop, replicate, get_or, sym, ◌∙◌, ap, arith, decimal, drop-cons, length-drop}
use Rattle.std.proofs.lemmas.List.{get_or-take, get_or-replicate, take_all}
use Rattle.cert_reader.specs.Text.{quoted_number}

pub from_the_quote : (row : List ℕ) (start n : ℕ) → 1 ≤ start → start ≤ 21 → length row ≡ 22
    → take start row ≡ take start (replicate 22 34) → drop start row ≡ decimal n ++ drop 21 (replicate 22 34)
    → take (22 - (start - 1)) (drop (start - 1) row) ≡ quoted_number n
from_the_quote row start n some l long before written =
    let j : ℕ = start - 1 in
    let quote : get_or row j 0 ≡ 34
    = sym (get_or-take start row j 0 (omega arith))
    ∙ (ap (λ (s : List ℕ). get_or s j 0) before
    ∙ (get_or-take start (replicate 22 34) j 0 (omega arith) ∙ get_or-replicate 22 j 34 0 (omega arith))) in
    let next : suc j ≡ start = omega arith in
    take_all (22 - j) (drop j row) (omega (arith, length-drop j row))
    ∙ (drop-cons row j 0 (omega arith)
    ∙ (ap (λ (x : ℕ). x ∷ drop (suc j) row) quote
    ∙ (ap (λ (k : ℕ). 34 ∷ drop k row) next ∙ ap (λ (s : List ℕ). 34 ∷ s) written)))
