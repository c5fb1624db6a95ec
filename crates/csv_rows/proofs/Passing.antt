-- Stretches of a text with no stop.
use Rattle.std.proofs.Common.{◌≡◌, ℕ, zero, suc, ◌≢◌, ◌+◌, ◌-◌, ◌<◌, ◌≤◌, false, List, [], length, get_or, inl, inr, refl, sym, subst, arith}
use Rattle.std.proofs.lemmas.Bool.{cases_lt, leb-false}
use Rattle.csv_rows.specs.PlainText.{IsPlainText}
use Rattle.csv_rows.specs.inner.Stops.{is_stop, PassesNoStop}
use Rattle.csv_rows.proofs.Splitting.{Reads, after_other}

-- one such stretch behind another
pub both : (text : List ℕ) (from at end : ℕ) → PassesNoStop text from at
    → at ≤ end → end ≤ length text
    → ((k : ℕ) → at ≤ k → k < end → is_stop (get_or text k 0) ≡ false) → PassesNoStop text from end
both text from at end before on high behind = record {
  low = omega (arith, before.low);
  high = high;
  passed = λ k low less. elim (cases_lt k at) [ inl l ↦ before.passed k low l | inr m ↦ behind k m less ];
}

-- what a byte is not that is no stop
no_comma : (b : ℕ) → is_stop b ≡ false → b ≢ 44
no_comma b passed e = omega (arith, leb-false b 44 passed)

no_line : (b : ℕ) → is_stop b ≡ false → b ≢ 10
no_line b passed e = omega (arith, leb-false b 44 passed)

-- before the first byte
pub at_front : (text : List ℕ) (fields : List (List ℕ)) → fields ≡ [] → Reads text fields 0 0
at_front text fields none = subst (λ (fs : List (List ℕ)). Reads text fs 0 0) (sym none) refl

module _ (text : List ℕ) (fields : List (List ℕ)) (from i at : ℕ) (plain : IsPlainText text) (begun : from ≤ i)
    (low : i ≤ at) (high : at ≤ length text)
    (others : (k : ℕ) → i ≤ k → k < at → (get_or text k 0 ≢ 44) × (get_or text k 0 ≢ 10))
    (reads : Reads text fields from i) where
  over_some : (n : ℕ) → i + n ≤ at → Reads text fields from (i + n)
  over_some zero within = subst (λ (k : ℕ). Reads text fields from k) (omega arith) reads
  over_some (suc n) within =
      let byte = others (i + n) (omega arith) (omega arith) in
      subst (λ (k : ℕ). Reads text fields from k) (omega arith)
      (after_other text fields from (i + n) (omega arith) (omega arith) plain byte.0 byte.1 (over_some n (omega arith)))

  -- the machine goes over other bytes within the field at hand
  pub over_others : Reads text fields from at
  over_others = subst (λ (k : ℕ). Reads text fields from k) (omega arith) (over_some (at - i) (omega arith))

-- and over what has no stop
pub over : (text : List ℕ) (fields : List (List ℕ)) (from i at : ℕ) → IsPlainText text → from ≤ i
    → PassesNoStop text i at → Reads text fields from i → Reads text fields from at
over text fields from i at plain begun passes reads =
    over_others text fields from i at plain begun passes.low passes.high
    (λ k low less.
    (no_comma (get_or text k 0) (passes.passed k low less), no_line (get_or text k 0) (passes.passed k low less)))
    reads
