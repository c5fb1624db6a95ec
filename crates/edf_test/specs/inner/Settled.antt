-- Where the rates of the tasks and of a supply settle the test.
use Rattle.std.specs.Prelude.{ℕ, ◌+◌, ◌-◌, ◌*◌, ◌/◌, ◌^◌, ◌<◌, ◌≤◌, max, List}
use Rattle.slot_model.specs.Task.{SporadicTask}
use Rattle.slot_model.specs.Bound.{dbf}
use Rattle.edf_test.specs.Rates.{asked_rate, asked_ahead}

-- no window past `last` asks for more than the bound
abbrev pub IsSettledPast : List SporadicTask → (ℕ → ℕ) → ℕ → Type 0
IsSettledPast tasks bound last = (t : ℕ) → last < t → dbf tasks t ≤ bound t

-- a supply's rate in 2^60 parts, rounded down: a cycle's amount over the cycle
abbrev pub given_rate : ℕ → ℕ → ℕ
given_rate amount cycle = amount * 2 ^ 60 / cycle

-- how far a supply's bound may fall behind that rate past the first cycle, where a cycle's amount
-- comes as late as can be
abbrev pub given_behind : (ℕ → ℕ) → ℕ → ℕ → ℕ
given_behind bound amount cycle =
    given_rate amount cycle * (2 * cycle - amount) - bound cycle * 2 ^ 60

-- where the line above the demand bound meets the line below the supply's bound,
-- and no less than a cycle
abbrev pub settled_point : List SporadicTask → (ℕ → ℕ) → ℕ → ℕ → ℕ
settled_point tasks bound amount cycle =
    max cycle
    ((asked_ahead tasks + given_behind bound amount cycle) /
    (given_rate amount cycle - asked_rate tasks))
