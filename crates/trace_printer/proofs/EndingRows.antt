-- The endings of rows, and a row as its moment and its ending.
use Rattle.std.proofs.Common.{◌≡◌, ◌<◌, ◌^◌, ℕ, zero, suc, Bool, true, false, cond, ◌||◌, List, [], ◌∷◌, ◌++◌, length, get_or, set, Option, None, IfSome, refl, sym, ◌∙◌, ap, arith, subst, inl, inr, append_assoc}
use Rattle.std.specs.Prelude.{decimal}
use Rattle.std.specs.Char.{is_ascii_digit}
use Rattle.std.specs.List.{list_all}
use Rattle.std.proofs.lemmas.Bool.{cases_eq, and_parts}
use Rattle.std.proofs.lemmas.Bool.Decides.{nat_tests}
use Rattle.std.proofs.lemmas.List.{get_or-set_same, get_or-set_other}
use Rattle.csv.specs.Quoting.{needs_byte}
use Rattle.csv.specs.Writing.{default_writer, row_text, fields_text, is_blank, needs_quotes, quoted, end_text}
use Rattle.tree_model.specs.View.{SystemView}
use Rattle.trace_printer.specs.declared.endings.Ending.{Ending}
use Rattle.trace_printer.specs.inner.Endings.{IsEnding, AreEndings}
use Rattle.slot_model.proofs.Digits.{decimal_digits}

-- an entry more, or another one
pub none_push : (made : List (Option Ending)) → ((i : ℕ) → get_or made i None ≡ None) → (i : ℕ)
    → get_or (made ++ None ∷ []) i None ≡ None
none_push [] h zero = refl
none_push [] h (suc i) = refl
none_push (o ∷ made) h zero = h 0
none_push (o ∷ made) h (suc i) = none_push made (λ j. h (suc j)) i

pub kept_more : (sys : SystemView) (made : List (Option Ending)) (p : ℕ) (o : Option Ending) → p < length made
    → AreEndings sys made → IfSome o (IsEnding sys) → AreEndings sys (set made p o)
kept_more sys made p o l are is i = elim (cases_eq i p) [
  | inl q ↦
      subst (λ (k : Option Ending). IfSome k (IsEnding sys))
      (sym (ap (λ (z : ℕ). get_or (set made p o) z None) q ∙ get_or-set_same made p o None l)) is
  | inr ne ↦ subst (λ (k : Option Ending). IfSome k (IsEnding sys)) (sym (get_or-set_other made p i o None ne)) (are i)
]

-- digits call for no quotes
digit_plain : (b : ℕ) → is_ascii_digit b ≡ true → needs_byte default_writer b ≡ false
digit_plain b h = grind (arith, nat_tests)

digits_plain : (ds : List ℕ) → list_all is_ascii_digit ds ≡ true → needs_quotes default_writer ds ≡ false
digits_plain [] h = refl
digits_plain (d ∷ ds) h =
    let parts = and_parts (is_ascii_digit d) (list_all is_ascii_digit ds) h in
    ap (λ (b : Bool). b || needs_quotes default_writer ds) (digit_plain d parts.0) ∙ digits_plain ds parts.1

pub row_split : (n : ℕ) (a b c : List ℕ) → n < 2 ^ 64
    → decimal n ++ row_text default_writer ([] ∷ a ∷ b ∷ c ∷ []) ≡ row_text default_writer (decimal n ∷ a ∷ b ∷ c ∷ [])
unfolding is_blank
row_split n a b c l =
    let rest : List ℕ = fields_text default_writer (a ∷ b ∷ c ∷ []) in
    let end : List ℕ = [] ++ end_text default_writer.terminator in
    sym (ap (λ (q : Bool). (cond q (quoted default_writer (decimal n)) (decimal n) ++ rest) ++ end)
    (digits_plain (decimal n) (decimal_digits n (omega arith))) ∙ append_assoc (decimal n) rest end)
