-- The numbers of words.
use Rattle.std.specs.Prelude.{ℕ, ◌&&◌, nat_le, if◌then◌else◌, List, Option, Some, None}
use Rattle.csv_rows.specs.Decimal.{is_plain, number}

-- the plain decimal number from 1 to the most that a word spells
abbrev pub number_from_one : ℕ → List ℕ → Option ℕ
number_from_one most word =
    if is_plain word && nat_le 1 (number word) && nat_le (number word) most
    then Some (number word)
    else None

-- the number of guests of `bulk N`, from 1 to 256
abbrev pub guest_number : List ℕ → Option ℕ
guest_number = number_from_one 256
