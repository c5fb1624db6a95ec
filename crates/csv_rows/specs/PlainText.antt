-- Texts in which each comma ends a field and each line feed a record.
use Rattle.std.specs.Prelude.{◌≡◌, ℕ, ◌<◌, ◌==◌, false, List, length, slice_index}

-- a text with no quote and no carriage return
abbrev pub IsPlainText : List ℕ → Type 0
IsPlainText text = (i : ℕ) → i < length text
    → ((slice_index text i == 34) ≡ false) × ((slice_index text i == 13) ≡ false)
