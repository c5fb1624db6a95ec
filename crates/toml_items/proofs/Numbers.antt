-- Digits at the front of a text, as the number that TOML reads.
use Rattle.std.proofs.Common.{◌≡◌, ℕ, suc, ◌+◌, ◌*◌, ◌/◌, ◌%◌, ◌^◌, ◌<◌, ◌≤◌, false, ◌==◌, pos, List, [], ◌∷◌, ◌++◌, length, drop, get_or, decimal, Some, refl, sym, ap, ◌∙◌, arith, add-one, append_assoc, drop-cons}
use Rattle.std.proofs.Math.Nat.{pow-le-pow_right}
use Rattle.std.proofs.lemmas.Fmt.{decimal_digit, decimal_step}
use Rattle.toml_parser.specs.declared.scalar.Scalar.TheVariants.{Integer}
use Rattle.toml_parser.specs.Lexical.{first, is_word}
use Rattle.toml_parser.specs.Numbers.{unquoted}
use Rattle.toml_writer.proofs.Scalars.{IsWord-pos, EndsWord, unquoted-word}

-- one digit at the front
pub digit_first : (bytes : List ℕ) (d : ℕ) → d < 10 → get_or bytes 0 0 ≡ 48 + d → bytes ≡ decimal d ++ drop 1 bytes
digit_first [] d small here = absurd (omega (arith, here))
digit_first (c ∷ cs) d small here = rw (decimal_digit d small) (ap (λ (x : ℕ). x ∷ cs) here)

-- a digit more
pub digit_more : (bytes : List ℕ) (len number digit : ℕ) → 1 ≤ number → digit < 10 → 10 * number + digit < 2 ^ 64
    → len < length bytes
    → get_or bytes len 0 ≡ 48 + digit → bytes ≡ decimal number ++ drop len bytes
    → bytes ≡ decimal (10 * number + digit) ++ drop (len + 1) bytes
digit_more bytes len number digit some small fits within here before =
    let n : ℕ = 10 * number + digit in
    let front : n / 10 ≡ number = omega arith in
    let last : n % 10 ≡ digit = omega arith in
    let same : decimal n ≡ decimal number ++ ((48 + digit) ∷ []) =
    decimal_step n (omega arith) fits
    ∙ (ap (λ (m : ℕ). decimal m ++ ((48 + n % 10) ∷ [])) front
    ∙ ap (λ (d : ℕ). decimal number ++ ((48 + d) ∷ [])) last) in
    let next : drop len bytes ≡ (48 + digit) ∷ drop (len + 1) bytes =
    drop-cons bytes len 0 within
    ∙ (ap (λ (x : ℕ). x ∷ drop (suc len) bytes) here
    ∙ ap (λ (k : ℕ). (48 + digit) ∷ drop k bytes) (sym (add-one len))) in
    before
    ∙ (ap (λ (s : List ℕ). decimal number ++ s) next
    ∙ (sym (append_assoc (decimal number) ((48 + digit) ∷ []) (drop (len + 1) bytes))
    ∙ ap (λ (s : List ℕ). s ++ drop (len + 1) bytes) (sym same)))

-- a number of so few digits
pub few_below : (number len : ℕ) → number < 10 ^ len → len ≤ 18 → number < 10 ^ 18
few_below number len below few = omega (arith, pow-le-pow_right {n = 10} (omega arith) few)

-- a number that neither goes on nor stands before a space
pub unquoted-digits : (text rest : List ℕ) (number : ℕ) → text ≡ decimal number ++ rest → number < 2 ^ 63
    → is_word (first rest) ≡ false
    → (first rest == 32) ≡ false → unquoted text ≡ Some (Integer (pos number), rest)
unquoted-digits text rest number is small word space =
    let h = IsWord-pos number small in
    let stop : EndsWord rest = (word, rw space refl) in
    ap unquoted is ∙ unquoted-word (decimal number) rest (Integer (pos number)) h.some h.all stop h.value
