-- The task that all others rank above.
use Rattle.std.specs.Prelude.{◌≡◌, ◌≢◌, ℕ, ◌<◌, Bool, true}

-- all other places below n rank above this one
abbrev pub IsLowest : (ℕ → ℕ → Bool) → ℕ → ℕ → Type 0
IsLowest above n low = (k : ℕ) → k < n → k ≢ low → above k low ≡ true
