-- The time that is stolen from a VCPU. Two tests of moments say what the VCPU does: at which it is
-- blocked, and at which it has its core. Moments are slots, nanoseconds or of any other unit.
use Rattle.std.specs.Prelude.{◌≡◌, ℕ, suc, ◌+◌, ◌-◌, ◌≤◌, min, Bool, true, false, not, ◌&&◌, ◌||◌, List, map}
use Rattle.std.specs.List.{range_with_len}
use Rattle.slot_model.specs.Supply.{GivesBudget}
use Rattle.trace_file.specs.Periods.{begins, count_between, is_judged, time_got}

-- a moment is stolen: the VCPU is not blocked, and does not have its core
abbrev pub is_stolen : (ℕ → Bool) → (ℕ → Bool) → ℕ → Bool
is_stolen blocked runs x = not (blocked x) && not (runs x)

-- of a VCPU whose periods count from f: how many moments of its period k are stolen, of those
-- below n
abbrev pub stolen_in : (ℕ → Bool) → (ℕ → Bool) → (period f n k : ℕ) → ℕ
stolen_in blocked runs period f n k =
    count_between (is_stolen blocked runs) (begins period f k) (min (begins period f (suc k)) n)

-- in no period so many that the others are fewer than its budget
abbrev pub Spares : (ℕ → Bool) → (ℕ → Bool) → (period budget f n : ℕ) → Type 0
Spares blocked runs period budget f n =
    (k : ℕ) → stolen_in blocked runs period f n k + budget ≤ period

-- a list with an entry for each moment from f on and below n, true where it passes a test
abbrev pub moments_from : (ℕ → Bool) → (f n : ℕ) → List Bool
moments_from passes f n = map passes (range_with_len f (n - f))

-- the VCPU never has its core while it is blocked
abbrev pub NeverBoth : (ℕ → Bool) → (ℕ → Bool) → Type 0
NeverBoth blocked runs = (x : ℕ) → blocked x ≡ true → runs x ≡ false

-- then each moment of a period that ends by n is one that is stolen, one at which it has its core,
-- or one at which it is blocked
abbrev pub TimesAddUp : Type 0
TimesAddUp =
    (blocked runs : ℕ → Bool) (period f n k : ℕ) → NeverBoth blocked runs →
    begins period f (suc k) ≤ n →
    stolen_in blocked runs period f n k + time_got runs period f n k
    + time_got blocked period f n k ≡ period

-- so in a period that an audit judges, in which it is never blocked, it is stolen no more than the
-- period has beyond the budget exactly where it has its core for its budget
abbrev pub AgreesWithAudit : Type 0
AgreesWithAudit =
    (blocked runs : ℕ → Bool) (period budget f n k : ℕ) → budget ≤ period →
    is_judged blocked period f n k ≡ true →
    (stolen_in blocked runs period f n k + budget ≤ period → budget ≤ time_got runs period f n k)
    × (budget ≤ time_got runs period f n k → stolen_in blocked runs period f n k + budget ≤ period)

-- and over all periods it is so exactly where the moments at which it has its core or is blocked
-- are a supply that gives the budget in each period
abbrev pub IsSupplyWhereSpared : Type 0
IsSupplyWhereSpared =
    (blocked runs : ℕ → Bool) (period budget f n : ℕ) → budget ≤ period →
    (Spares blocked runs period budget f n →
    GivesBudget period budget (moments_from (λ x. runs x || blocked x) f n))
    × (GivesBudget period budget (moments_from (λ x. runs x || blocked x) f n) →
    Spares blocked runs period budget f n)
