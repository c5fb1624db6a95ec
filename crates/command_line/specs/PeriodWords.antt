-- The words of a period, and of a range of periods.
use Rattle.std.specs.Prelude.{ℕ, ◌-◌, ◌&&◌, nat_le, List, Option, Some, None, if◌then◌else◌}
use Rattle.command_line.specs.Numbers.{number_from_one}

-- a plain decimal number of slots from 1 to the longest period
abbrev pub longest_period : ℕ
longest_period = 1000000000

abbrev pub period_of : List ℕ → Option ℕ
period_of = number_from_one longest_period

-- two periods in order, at most 9,999 apart
abbrev pub range_between : ℕ → ℕ → Option (ℕ × ℕ)
range_between low high =
    if nat_le low high && nat_le (high - low) 9999 then Some (low, high) else None

abbrev pub range_of_periods : Option ℕ → Option ℕ → Option (ℕ × ℕ)
range_of_periods (Some low) (Some high) = range_between low high
range_of_periods _ _ = None

abbrev pub range_of : List ℕ → List ℕ → Option (ℕ × ℕ)
range_of low high = range_of_periods (period_of low) (period_of high)
