-- Whether two texts are the same.
use Rattle.std.proofs.Common.{◌≡◌, ◌≢◌, ℕ, ◌<◌, true, false, List, length, get_or, ap, arith, inl, inr}
use Rattle.std.proofs.lemmas.Bool.{cases_Bool}
use Rattle.std.proofs.lemmas.Grind.{same_number_lists}
use Rattle.std.proofs.lemmas.Slice.Eq.{bytes_eq-Decides}
use Rattle.std.specs.Prelude.{bytes_eq}

pub same_texts : (text other : List ℕ) → length text ≡ length other
    → ((k : ℕ) → k < length other → get_or text k 0 ≡ get_or other k 0) → bytes_eq text other ≡ true
same_texts text other long each =
    (bytes_eq-Decides text other).1
    (same_number_lists text other long (λ k less. each k (omega (arith, less, long))))

differs : (text other : List ℕ) → (text ≡ other → ⊥) → bytes_eq text other ≡ false
differs text other apart = elim (cases_Bool (bytes_eq text other)) [
  | inl same ↦ absurd (apart ((bytes_eq-Decides text other).0 same))
  | inr other_text ↦ other_text
]

pub other_length : (text other : List ℕ) → length text ≢ length other → bytes_eq text other ≡ false
other_length text other apart = differs text other (λ e. apart (ap length e))

pub other_byte : (text other : List ℕ) (i : ℕ) → get_or text i 0 ≢ get_or other i 0 → bytes_eq text other ≡ false
other_byte text other i apart = differs text other (λ e. apart (ap (λ (z : List ℕ). get_or z i 0) e))
