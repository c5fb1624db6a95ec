-- What is made of a record of a workload.
use Rattle.std.specs.Prelude.{◌≡◌, ℕ, ◌<◌, ◌≤◌, true, false, List, [], ◌∷◌}
use Rattle.slot_model.specs.declared.task.TheConstants.{LIMIT}
use Rattle.tree_model.specs.View.{SystemView}
use Rattle.trace_file.specs.Rules.{is_vcpu}
use Rattle.release_file.specs.declared.wake_spelling.WakeRow.{WakeRow}
use Rattle.release_file.specs.declared.wake_spelling.SpeltWake.{SpeltWake}
use Rattle.release_file.specs.declared.wake_spelling.SpeltWake.TheVariants.{Bad, TooLate, Unknown, Spelled}
use Rattle.release_file.specs.WorkloadFile.{is_wake_row, wake_of}

-- a record that is no row, a row whose slot passes the limit, one at a slot that names no VCPU, or
-- what a row of a VCPU spells
abbrev pub IsSpeltWake : SystemView → List (List ℕ) → SpeltWake → Type 0
IsSpeltWake sys fields Bad = is_wake_row fields ≡ false
IsSpeltWake sys fields TooLate =
    (is_wake_row fields ≡ true) × (LIMIT < (wake_of sys fields).at)
IsSpeltWake sys fields (Unknown at) =
    (is_wake_row fields ≡ true) × (at ≡ (wake_of sys fields).at) × (at ≤ LIMIT)
    × (is_vcpu sys (wake_of sys fields).vcpu ≡ false)
IsSpeltWake sys fields (Spelled wake) =
    (is_wake_row fields ≡ true) × (wake ≡ wake_of sys fields) × (wake.at ≤ LIMIT)
    × (is_vcpu sys wake.vcpu ≡ true)

-- the fields of a row
abbrev pub wake_fields : WakeRow → List (List ℕ)
wake_fields row = row.at.now ∷ row.vcpu.now ∷ row.what.now ∷ []
