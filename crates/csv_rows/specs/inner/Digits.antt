-- The digits at the front of a field.
use Rattle.std.specs.Prelude.{◌≡◌, ℕ, ◌+◌, ◌-◌, ◌*◌, ◌^◌, ◌<◌, ◌≤◌, true, List, length, take, drop, slice_index}
use Rattle.std.specs.Char.{is_ascii_digit}
use Rattle.std.specs.List.{list_all}
use Rattle.csv_rows.specs.Decimal.{digits_after, number, is_plain}
use Rattle.csv_rows.specs.declared.decimal.Front.{Front}

-- so many bytes at the front of a field are digits, and this is their number
pub record IsFront (field : List ℕ) (front : Front) : Type 0 where
  pub within : front.digits ≤ length field
  pub are_digits : list_all is_ascii_digit (take front.digits field) ≡ true
  pub so_far : number field ≡ digits_after front.number (drop front.digits field)
  pub few : front.number < 10 ^ front.digits

-- a field of few bytes is a plain number where these are digits
abbrev pub IsShort : List ℕ → Type 0
IsShort field = (length field ≤ 15) × (list_all is_ascii_digit field ≡ true → is_plain field ≡ true)

-- the number of two digits of a field
abbrev pub pair_at : List ℕ → ℕ → ℕ
pair_at field i = 10 * (slice_index field i - 48) + (slice_index field (i + 1) - 48)
