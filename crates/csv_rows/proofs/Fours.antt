-- A line of four fields.
use Rattle.std.proofs.Common.{◌≡◌, ◌≢◌, ◌∙◌, ℕ, ◌+◌, ◌-◌, ◌<◌, ◌≤◌, List, [], ◌∷◌, ◌++◌, Some, length, take, get_or, refl, ap, arith}
use Rattle.csv.specs.Machine.{next_record}
use Rattle.csv.specs.Reading.{default_config}
use Rattle.csv.specs.declared.parser.State.TheVariants as st
use Rattle.csv_rows.specs.PlainText.{IsPlainText}
use Rattle.csv_rows.proofs.Passing.{at_front, over_others}
use Rattle.csv_rows.proofs.Splitting.{Reads, after_comma, after_line, at_hand, left_of}

module _ (text : List ℕ) (a b c end : ℕ) (plain : IsPlainText text) (within : end < length text)
    (line : (k : ℕ) → k < end → get_or text k 0 ≢ 10)
    (others : (k : ℕ) → k < end → k ≢ a → k ≢ b → k ≢ c → get_or text k 0 ≢ 44) where
  passed : (fields : List (List ℕ)) (from at : ℕ) → from ≤ at → at ≤ end
      → ((k : ℕ) → from ≤ k → k < at → (k ≢ a) × (k ≢ b) × (k ≢ c)) → Reads text fields from from
      → Reads text fields from at
  passed fields from at low high apart reads =
      over_others text fields from from at plain (omega arith) low (omega (arith, within, high))
      (λ k begun less.
      let away = apart k begun less in
      (others k (omega (arith, less, high)) away.0 away.1 away.2, line k (omega (arith, less, high)))) reads

  taken : (fields : List (List ℕ)) (from at : ℕ) → from ≤ at → at < end → get_or text at 0 ≡ 44
      → ((k : ℕ) → from ≤ k → k < at → (k ≢ a) × (k ≢ b) × (k ≢ c)) → Reads text fields from from
      → Reads text (fields ++ at_hand text from at ∷ []) (at + 1) (at + 1)
  taken fields from at low high comma apart reads =
      after_comma text fields from at _ (omega (arith, within, high)) comma refl
      (passed fields from at low (omega (arith, high)) apart reads)

  -- the machine reads four fields where the line has just these three commas
  pub four_read : a < b → b < c → c < end → get_or text a 0 ≡ 44 → get_or text b 0 ≡ 44 → get_or text c 0 ≡ 44
      → get_or text end 0 ≡ 10
      → next_record default_config st.StartRecord [] [] text
      ≡ Some (
        take a text ∷ at_hand text (a + 1) b ∷ at_hand text (b + 1) c ∷ at_hand text (c + 1) end ∷ [],
        st.StartRecord,
        left_of text (end + 1),
      )
  four_read ab bc ce first second third ends =
      let one = taken [] 0 a (omega arith) (omega arith) first
      (λ k from less. ((λ e. absurd (omega arith)), (λ e. absurd (omega arith)), λ e. absurd (omega arith)))
      (at_front text [] refl) in
      let two = taken (at_hand text 0 a ∷ []) (a + 1) b (omega arith) (omega arith) second
      (λ k from less. ((λ e. absurd (omega arith)), (λ e. absurd (omega arith)), λ e. absurd (omega arith))) one in
      let three = taken (at_hand text 0 a ∷ at_hand text (a + 1) b ∷ []) (b + 1) c (omega arith) (omega arith) third
      (λ k from less. ((λ e. absurd (omega arith)), (λ e. absurd (omega arith)), λ e. absurd (omega arith))) two in
      let whole : a - 0 ≡ a = omega arith in
      let fields : List (List ℕ) = at_hand text 0 a ∷ at_hand text (a + 1) b ∷ at_hand text (b + 1) c ∷ [] in
      after_line text fields (c + 1) end _ (omega arith) within ends (λ here none. absurd (omega (arith, none))) refl
      (passed fields (c + 1) end (omega arith) (omega arith)
      (λ k from less. ((λ e. absurd (omega arith)), (λ e. absurd (omega arith)), λ e. absurd (omega arith))) three)
      ∙ ap (λ (n : ℕ). Some (
        take n text ∷ at_hand text (a + 1) b ∷ at_hand text (b + 1) c
            ∷ at_hand text (c + 1) end ∷ [],
        st.StartRecord,
        left_of text (end + 1),
      )) whole
