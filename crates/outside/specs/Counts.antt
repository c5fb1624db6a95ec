-- Counts that never fall, and stand still at their last value 2^64 - 1.
use Rattle.std.specs.Prelude.{◌≡◌, ℕ, ◌+◌, ◌-◌, ◌^◌, ◌≤◌, min}

-- a count that rises by n
abbrev pub raised : ℕ → ℕ → ℕ
raised count n = min (count + n) (2 ^ 64 - 1)

-- the count rose by one, or stands at its last value
abbrev pub Rose : ℕ → ℕ → Type 0
Rose before after = after ≡ raised before 1

-- the count rose by n, or by less to its last value
abbrev pub RoseBy : ℕ → ℕ → ℕ → Type 0
RoseBy n before after = (raised before n ≤ after) × (after ≤ before + n)

-- the count rose by more than n, or stands at its last value
abbrev pub RoseBeyond : ℕ → ℕ → ℕ → Type 0
RoseBeyond n before after = raised before (n + 1) ≤ after

-- what a store counts: the calls that failed, the names that were not there, the bytes that were
-- read
pub record Counts : Type 0 where
  pub faults : ℕ
  pub absences : ℕ
  pub taken : ℕ

abbrev pub counts_of : {A : Type 0} (faults absences taken : A → ℕ) → A → Counts
counts_of faults absences taken store =
    record { faults = faults store; absences = absences store; taken = taken store }

-- no call failed, and no name was not there
pub record IsQuiet (before after : Counts) : Type 0 where
  pub faults : after.faults ≡ before.faults
  pub absences : after.absences ≡ before.absences
  pub taken : before.taken ≤ after.taken
