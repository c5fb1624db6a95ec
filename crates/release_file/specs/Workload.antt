-- What the rows of a workload say of the VCPUs. A row at a slot acts on that slot and later ones.
use Rattle.std.specs.Prelude.{◌≡◌, ◌≢◌, ℕ, ◌+◌, ◌<◌, ◌≤◌, ◌==◌, Bool, true, false, not, ◌&&◌, nat_le, List, length, slice_index_or, Option, Some, None, is_some}
use Rattle.slot_model.specs.declared.task.TheConstants.{LIMIT}
use Rattle.csv_rows.specs.Last.{last_below, some_passes}
use Rattle.tree_model.specs.View.{SystemView}
use Rattle.trace_file.specs.Rules.{is_vcpu}
use Rattle.release_file.specs.declared.workload.Wake.{Wake}
use Rattle.release_file.specs.declared.workload.WakeKind.{WakeKind}
use Rattle.release_file.specs.declared.workload.WakeKind.TheVariants.{Start, Wake as ToWake, Block}

-- the row at a place; past the last one a start of VCPU 0 at slot 0, which no definition reads
abbrev pub row_at : List Wake → ℕ → Wake
row_at rows i = slice_index_or rows i (record { at = 0; vcpu = 0; what = Start })

-- the last of the first n rows that passes a test
abbrev pub last_row : (Wake → Bool) → List Wake → ℕ → Option Wake
last_row passes rows n = last_below passes (row_at rows) n

-- a row is one of VCPU v; one of its start; one at or before slot x
abbrev pub is_of : ℕ → Wake → Bool
is_of v row = row.vcpu == v

abbrev pub is_start : WakeKind → Bool
is_start Start = true
is_start _ = false

abbrev pub starts : ℕ → Wake → Bool
starts v row = is_of v row && is_start row.what

abbrev pub is_by : ℕ → Wake → Bool
is_by x row = nat_le row.at x

-- whether a row is a block, and its slot
abbrev pub is_block : WakeKind → Bool
is_block Block = true
is_block _ = false

abbrev pub blocks : Option Wake → Bool
blocks last = some_passes (λ row. is_block row.what) last

abbrev pub slot_of : Option Wake → ℕ
slot_of None = 0
slot_of (Some row) = row.at

-- after the first n rows: whether VCPU v is started, and whether it is blocked
abbrev pub started_after : List Wake → ℕ → ℕ → Bool
started_after rows n v = is_some (last_row (starts v) rows n)

abbrev pub blocked_after : List Wake → ℕ → ℕ → Bool
blocked_after rows n v = blocks (last_row (is_of v) rows n)

-- at slot x: VCPU v is started when a row at or before x starts it, and blocked when the last of
-- its rows at or before x is a block
abbrev pub is_started_at : List Wake → ℕ → ℕ → Bool
is_started_at rows v x = is_some (last_row (λ row. is_by x row && starts v row) rows (length rows))

abbrev pub is_blocked_at : List Wake → ℕ → ℕ → Bool
is_blocked_at rows v x = blocks (last_row (λ row. is_by x row && is_of v row) rows (length rows))

-- whether a row starts VCPU v at all, and the slot of its start
abbrev pub is_started : List Wake → ℕ → Bool
is_started rows v = is_some (last_row (starts v) rows (length rows))

abbrev pub start_of : List Wake → ℕ → ℕ
start_of rows v = slot_of (last_row (starts v) rows (length rows))

-- what may follow on the last row of a VCPU: a start comes first and only there, a wake while it is
-- blocked, a block while it is not
abbrev pub may_follow : Option Wake → WakeKind → Bool
may_follow None Start = true
may_follow None _ = false
may_follow (Some last) Start = false
may_follow (Some last) ToWake = is_block last.what
may_follow (Some last) Block = not (is_block last.what)

-- the rows of a workload file: in order and in the limit, each of a VCPU, at most one of a VCPU at
-- a slot, and each such that it may follow on the VCPU's last
pub record IsWorkload (sys : SystemView) (rows : List Wake) : Type 0 where
  pub in_limit : (i : ℕ) → i < length rows → (row_at rows i).at ≤ LIMIT
  pub in_order : (i : ℕ) → i + 1 < length rows → (row_at rows i).at ≤ (row_at rows (i + 1)).at
  pub known : (i : ℕ) → i < length rows → is_vcpu sys (row_at rows i).vcpu ≡ true
  pub one_a_slot : (i j : ℕ) → i < j → j < length rows →
      (row_at rows i).vcpu ≡ (row_at rows j).vcpu → (row_at rows i).at ≢ (row_at rows j).at
  pub in_turn : (i : ℕ) → i < length rows →
      may_follow (last_row (is_of (row_at rows i).vcpu) rows i) (row_at rows i).what ≡ true
