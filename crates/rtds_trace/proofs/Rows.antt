-- The rows of a workload at a slot, and before the next.
use Rattle.std.proofs.Common.{◌≡◌, ◌≢◌, ℕ, suc, Bool, ◌&&◌, cond, List, length, Some, None, ap, arith, eq-eqb, ne_eqb}
use Rattle.std.specs.Prelude.{is_some}
use Rattle.tree_model.specs.View.{SystemView}
use Rattle.release_file.specs.declared.workload.Wake.{Wake as Row}
use Rattle.release_file.specs.Workload.{row_at, last_row, is_by, is_of, starts, blocks, started_after, blocked_after, is_started_at, is_blocked_at}
use Rattle.csv_rows.proofs.Last.{last_by_moment}
use Rattle.rtds_trace.specs.Printed.{event_of, row_event_at, AreBefore}

-- the event of a row at a slot
pub row_none : (sys : SystemView) (rows : List Row) (x i : ℕ) → (row_at rows i).at ≢ x
    → row_event_at sys rows x i ≡ None
row_none sys rows x i ne =
    ap (λ (b : Bool). cond b (Some (event_of sys (row_at rows i))) None) (ne_eqb (row_at rows i).at x ne)

pub row_some : (sys : SystemView) (rows : List Row) (x i : ℕ) → (row_at rows i).at ≡ x
    → row_event_at sys rows x i ≡ Some (event_of sys (row_at rows i))
row_some sys rows x i e =
    ap (λ (b : Bool). cond b (Some (event_of sys (row_at rows i))) None) (eq-eqb (row_at rows i).at x e)

-- the last row among those at or before x is the last of the first k, where those are the rows at
-- or before x
pub by_slot : (p : Row → Bool) (rows : List Row) (x k : ℕ) → AreBefore rows k (suc x)
    → last_row (λ r. is_by x r && p r) rows (length rows) ≡ last_row p rows k
by_slot p rows x k h =
    last_by_moment (λ r. r.at) p (row_at rows) x k (length rows) h.in_rows (λ i l. omega (arith, h.past i l))
    (λ i a b. omega (arith, h.to_come i a b))

pub started_by : (rows : List Row) (v x k : ℕ) → AreBefore rows k (suc x)
    → is_started_at rows v x ≡ started_after rows k v
started_by rows v x k h = ap is_some (by_slot (starts v) rows x k h)

pub blocked_by : (rows : List Row) (v x k : ℕ) → AreBefore rows k (suc x)
    → is_blocked_at rows v x ≡ blocked_after rows k v
blocked_by rows v x k h = ap blocks (by_slot (is_of v) rows x k h)
