-- How many numbers have a property, and which is the least and the greatest.
use Rattle.std.specs.Prelude.{◌≡◌, ℕ, ◌<◌, ◌≤◌, Bool, true, Option, Some, None}
use Rattle.slot_model.specs.Slots.{count_below}

-- So many numbers have a property: a test tells which ones below a limit have it, and no other has.
pub record IsNumberOf (has : ℕ → Type 0) (n : ℕ) : Type 0 where
  pub test : ℕ → Bool
  pub limit : ℕ
  pub have : (k : ℕ) → k < limit → test k ≡ true → has k
  pub pass : (k : ℕ) → has k → (k < limit) × (test k ≡ true)
  pub count : n ≡ count_below test limit

-- the least of the numbers that have a property, or none where none has it
pub record IsLeast (has : ℕ → Type 0) (x : ℕ) : Type 0 where
  pub is : has x
  pub least : (y : ℕ) → has y → x ≤ y

abbrev pub IsLeastOf : (ℕ → Type 0) → Option ℕ → Type 0
IsLeastOf has None = (x : ℕ) → has x → ⊥
IsLeastOf has (Some x) = IsLeast has x

-- and the greatest
pub record IsMost (has : ℕ → Type 0) (x : ℕ) : Type 0 where
  pub is : has x
  pub most : (y : ℕ) → has y → y ≤ x

abbrev pub IsMostOf : (ℕ → Type 0) → Option ℕ → Type 0
IsMostOf has None = (x : ℕ) → has x → ⊥
IsMostOf has (Some x) = IsMost has x
