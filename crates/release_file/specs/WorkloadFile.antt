-- The workload that the records of a file spell. A record is a list of fields, and a field a list
-- of bytes.
use Rattle.std.specs.Prelude.{◌≡◌, ℕ, zero, suc, ◌==◌, Bool, false, not, ◌&&◌, nat_lt, if◌then◌else◌, List, [], ◌∷◌, length, map, Option, Some, None, is_some, unwrap_or, codes, bytes_eq}
use Rattle.slot_model.specs.declared.task.TheConstants.{LIMIT}
use Rattle.csv_rows.specs.Decimal.{is_plain, number}
use Rattle.csv_rows.specs.Rules.{RulesOf, RowsKeep, IsFirstFault, row_of, fault_if}
use Rattle.tree_model.specs.View.{SystemView}
use Rattle.trace_file.specs.File.{part_place}
use Rattle.trace_file.specs.Rules.{is_vcpu}
use Rattle.release_file.specs.declared.fault.ReleaseFault.{ReleaseFault}
use Rattle.release_file.specs.declared.fault.ReleaseFault.TheVariants.{BadHeader, BadRow, Unknown, OutOfRange, BadOrder}
use Rattle.release_file.specs.declared.workload.Wake.{Wake}
use Rattle.release_file.specs.declared.workload.WakeKind.{WakeKind}
use Rattle.release_file.specs.declared.workload.WakeKind.TheVariants.{Start, Wake as ToWake, Block}
use Rattle.release_file.specs.Workload.{row_at, last_row, is_of, may_follow}

-- the three words
abbrev pub kind_named : List ℕ → Option WakeKind
kind_named word =
    if bytes_eq word (codes "start") then Some Start
    else if bytes_eq word (codes "wake") then Some ToWake
    else if bytes_eq word (codes "block") then Some Block
    else None

-- a row has three fields: a plain number, a VCPU and a word
abbrev pub is_wake_row : List (List ℕ) → Bool
is_wake_row (at ∷ vcpu ∷ what ∷ []) = is_plain at && is_some (kind_named what)
is_wake_row _ = false

-- what such a row spells
abbrev pub wake_of : SystemView → List (List ℕ) → Wake
wake_of sys (at ∷ vcpu ∷ what ∷ []) =
    record { at = number at; vcpu = part_place sys vcpu; what = unwrap_or (kind_named what) Block }
wake_of sys _ = record { at = 0; vcpu = 0; what = Start }

abbrev pub wakes_of : SystemView → List (List (List ℕ)) → List Wake
wakes_of sys rows = map (wake_of sys) rows

-- the slot of the row before; before the first row it is 0
abbrev pub slot_before : List Wake → ℕ → ℕ
slot_before wakes zero = 0
slot_before wakes (suc i) = (row_at wakes i).at

-- one of the first n rows is of VCPU v and at slot x
abbrev pub is_at : ℕ → ℕ → Wake → Bool
is_at v x row = is_of v row && row.at == x

abbrev pub has_row_at : List Wake → ℕ → ℕ → ℕ → Bool
has_row_at wakes n v x = is_some (last_row (is_at v x) wakes n)

-- the first rule that a row breaks behind these: its slot is in the limit and not before that of
-- the row before, it is of a VCPU, which has no other row at the slot, and it may follow on the
-- VCPU's last row
abbrev pub turn_fault : List Wake → Wake → Option ReleaseFault
turn_fault wakes wake =
    let n = length wakes in
    fault_if (has_row_at wakes n wake.vcpu wake.at) (BadOrder (row_of n))
    (fault_if (not (may_follow (last_row (is_of wake.vcpu) wakes n) wake.what))
    (BadOrder (row_of n)) None)

abbrev pub wake_fault : SystemView → List Wake → Wake → Option ReleaseFault
wake_fault sys wakes wake =
    let n = length wakes in
    fault_if (nat_lt LIMIT wake.at) (OutOfRange (row_of n))
    (fault_if (nat_lt wake.at (slot_before wakes n)) (BadOrder (row_of n))
    (fault_if (not (is_vcpu sys wake.vcpu)) (Unknown (row_of n))
    (turn_fault wakes wake)))

-- the same of a record: no row, or a rule of what it spells
abbrev pub wake_rules : SystemView → RulesOf ReleaseFault
wake_rules sys rows row =
    fault_if (not (is_wake_row row)) (BadRow (row_of (length rows)))
    (wake_fault sys (wakes_of sys rows) (wake_of sys row))

-- the rows behind the header
abbrev pub is_wake_header : List (List ℕ) → Bool
is_wake_header (at ∷ vcpu ∷ what ∷ []) =
    bytes_eq at (codes "at") && bytes_eq vcpu (codes "vcpu") && bytes_eq what (codes "what")
is_wake_header _ = false

abbrev pub wake_rows : List (List (List ℕ)) → Option (List (List (List ℕ)))
wake_rows [] = None
wake_rows (header ∷ rows) = if is_wake_header header then Some rows else None

-- the records spell this workload
pub record SpellsWorkload (sys : SystemView) (records : List (List (List ℕ))) (wakes : List Wake)
    : Type 0 where
  pub rows : List (List (List ℕ))
  pub header : wake_rows records ≡ Some rows
  pub keep : RowsKeep (wake_rules sys) rows (length rows)
  pub wakes_are : wakes ≡ wakes_of sys rows

-- or this is their first fault: of the header, or of the first row that breaks a rule
abbrev pub IsWorkloadFault : SystemView → Option (List (List (List ℕ))) → ReleaseFault → Type 0
IsWorkloadFault sys None fault = fault ≡ BadHeader
IsWorkloadFault sys (Some rows) fault = IsFirstFault (wake_rules sys) rows fault
