-- A budget from one slot of each period on.
use Rattle.std.specs.Prelude.{ℕ, ◌+◌, ◌-◌, ◌%◌, ◌&&◌, nat_le, nat_lt, Bool}

-- the budget from slot `first` of each period on
abbrev pub cyclic_slot : ℕ → ℕ → ℕ → ℕ → Bool
cyclic_slot period first budget x =
    nat_le first (x % period) && nat_lt (x % period) (first + budget)
