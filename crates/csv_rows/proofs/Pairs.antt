-- Eight digits that are read as four lanes of two.
use Rattle.std.proofs.Common.{◌≡◌, ℕ, ◌+◌, ◌-◌, ◌*◌, ◌/◌, ◌%◌, ◌<◌, ◌≤◌, true, leb, List, [], ◌∷◌, length, take, get_or, refl, arith}
use Rattle.std.proofs.lemmas.Bool.{and_parts, leb-true}
use Rattle.std.specs.Char.{is_ascii_digit}
use Rattle.std.specs.List.{list_all}
use lib.Lanes.{number_l, zip2}
use Rattle.csv_rows.proofs.Numbers.{digit_there}

-- the first bytes of a field are digits
pub digit_between : (field : List ℕ) (k : ℕ) → 8 ≤ length field → k < 8
    → list_all is_ascii_digit (take 8 field) ≡ true → (48 ≤ get_or field k 0) × (get_or field k 0 ≤ 57)
digit_between field k room less all =
    let b : ℕ = get_or field k 0 in
    let parts = and_parts (leb 48 b) (leb b 57) (digit_there field 8 k room less all) in
    (leb-true 48 b parts.0, leb-true b 57 parts.1)

-- the number of eight bytes, of each of which `f` gives the digit
pub eight_together : (f : ℕ → ℕ → ℕ) (xs : List ℕ) → 8 ≤ length xs
    → ((k : ℕ) → k < 8 → f (get_or xs k 0) 48 ≡ get_or xs k 0 - 48)
    → number_l 256 (zip2 f (take 8 xs) (48 ∷ 48 ∷ 48 ∷ 48 ∷ 48 ∷ 48 ∷ 48 ∷ 48 ∷ []))
    ≡ (get_or xs 0 0 - 48) + 256 * ((get_or xs 1 0 - 48) + 256 * ((get_or xs 2 0 - 48) + 256 * ((get_or xs 3 0 - 48)
    + 256 * ((get_or xs 4 0 - 48) + 256 * ((get_or xs 5 0 - 48) + 256 * ((get_or xs 6 0 - 48)
    + 256 * (get_or xs 7 0 - 48)))))))
eight_together f [] room each = absurd (omega (arith, room))
eight_together f (a ∷ []) room each = absurd (omega (arith, room))
eight_together f (a ∷ b ∷ []) room each = absurd (omega (arith, room))
eight_together f (a ∷ b ∷ c ∷ []) room each = absurd (omega (arith, room))
eight_together f (a ∷ b ∷ c ∷ d ∷ []) room each = absurd (omega (arith, room))
eight_together f (a ∷ b ∷ c ∷ d ∷ e ∷ []) room each = absurd (omega (arith, room))
eight_together f (a ∷ b ∷ c ∷ d ∷ e ∷ g ∷ []) room each = absurd (omega (arith, room))
eight_together f (a ∷ b ∷ c ∷ d ∷ e ∷ g ∷ h ∷ []) room each = absurd (omega (arith, room))
eight_together f (a ∷ b ∷ c ∷ d ∷ e ∷ g ∷ h ∷ i ∷ rest) room each =
    omega (
      arith,
      each 0 (omega arith),
      each 1 (omega arith),
      each 2 (omega arith),
      each 3 (omega arith),
      each 4 (omega arith),
      each 5 (omega arith),
      each 6 (omega arith),
      each 7 (omega arith),
    )

-- the lowest lane of two digits, and what is above it
pub lowest_pair : (n x y rest : ℕ) → x < 10 → y < 10 → n ≡ x + 256 * (y + 256 * rest)
    → (n % 65536 * 2561 % 65536 / 256 ≡ 10 * x + y) × (n / 65536 ≡ rest)
lowest_pair n x y rest few_x few_y is =
    let low : n % 65536 ≡ x + 256 * y = omega (arith, few_x, few_y, is) in
    (omega (arith, low, few_x, few_y), omega (arith, few_x, few_y, is))

pub same_four : {a b c d p q r s : ℕ} → a ≡ p → b ≡ q → c ≡ r → d ≡ s
    → (a ∷ b ∷ c ∷ d ∷ []) ≡ (p ∷ q ∷ r ∷ s ∷ [])
same_four e f g h = rw (e, f, g, h) refl
